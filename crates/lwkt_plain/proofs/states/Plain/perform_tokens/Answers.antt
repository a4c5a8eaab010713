use Rattle.std.proofs.Common.{◌≡◌, ℕ, List, length, set, ap, sym, ◌∙◌, subst, arith, refl, Option, Some, None}
use Rattle.std.specs.Prelude.{option_map}
use Rattle.lwkt_base.specs.declared.names.Ref.{Ref}
use Rattle.lwkt_core.specs.declared.tokens.Token.{Token}
use Rattle.lwkt_plain.specs.declared.nexts.Next.{Next}
use Rattle.lwkt_plain.specs.declared.states.Plain.{Plain}
use Rattle.lwkt_plain.specs.Places.{with_tokens}
use Rattle.lwkt_plain.specs.Sound.{AreHeld, IsSoundList}
use Rattle.lwkt_plain.specs.TokenAsks.{Asked, asked}
use Rattle.lwkt_plain.specs.Turns.{list_at, with_list, performed, of_tokens, token_ask}
use Rattle.lwkt_plain.proofs.Soundness.{few_cpus, held_running, list_fits, list_got, put_is, put_back}
use Rattle.lwkt_plain.proofs.states.Plain.perform_tokens.Goals as goal

pub ask_tokens-requires-clause-held : goal.ask_tokens-requires-clause-held
ask_tokens-requires-clause-held c =
    let p = c.args.self.now in
    let few = few_cpus p c.requires.sound in
    let here = c.requires.here in
    let e = list_got p c.args.c c.args.k c.at-cpu.result.now c.at-thread.result.now c.at-cpu.ensures.value c.at-thread.ensures.value in
    subst (λ (refs : List Ref). AreHeld c.args.c refs p.tokens) e (held_running p c.args.c c.args.k c.requires.sound (omega (arith, few, here)) c.requires.running)

pub ask_tokens-requires-clause-fits : goal.ask_tokens-requires-clause-fits
ask_tokens-requires-clause-fits c =
    let p = c.args.self.now in
    let e = list_got p c.args.c c.args.k c.at-cpu.result.now c.at-thread.result.now c.at-cpu.ensures.value c.at-thread.ensures.value in
    subst (IsSoundList (length p.tokens)) e (list_fits p c.args.c c.args.k c.requires.sound c.requires.here c.requires.there)

of_each : (p q : Plain) (c k : ℕ) (tokens : List Token) (refs : List Ref) (o : Option Next) → with_list refs c k (with_tokens tokens p) ≡ q → option_map (performed q) o ≡ option_map (of_tokens (record { 0 = c }) k p) (option_map (asked tokens refs) o)
of_each p q c k tokens refs None is = refl
of_each p q c k tokens refs (Some next) is = ap (λ (x : Plain). Some (performed x next)) (sym is)

pub returns-clause-asks : goal.returns-clause-asks
returns-clause-asks c =
    let p = c.args.self.now in
    let e = list_got p c.args.c c.args.k c.at-cpu.result.now c.at-thread.result.now c.at-cpu.ensures.value c.at-thread.ensures.value in
    of_each p _ c.args.c c.args.k c.ask_tokens.new.tokens c.ask_tokens.new.list c.ask_tokens.result
    (put_is p c.args.c c.args.k c.at-cpu.result.now c.at-thread.result.now c.ask_tokens.new.tokens c.ask_tokens.new.list c.at-cpu.ensures.value c.at-thread.ensures.value)
    ∙ ap (option_map (of_tokens (record { 0 = c.args.c }) c.args.k p))
    (c.ask_tokens.ensures.asks ∙ ap (λ (refs : List Ref). token_ask (record { 0 = c.args.c }) p.tokens refs c.args.ask.now) (sym e))

pub returns-clause-stays : goal.returns-clause-stays
returns-clause-stays c = λ none.
    let p = c.args.self.now in
    let cpu = c.at-cpu.result.now in
    let t = c.at-thread.result.now in
    sym (put_is p c.args.c c.args.k cpu t c.ask_tokens.new.tokens c.ask_tokens.new.list c.at-cpu.ensures.value c.at-thread.ensures.value)
    ∙ ap (λ (ts : List Token). with_list c.ask_tokens.new.list c.args.c c.args.k (with_tokens ts p)) (c.ask_tokens.ensures.stays none)
    ∙ ap (λ (refs : List Ref). with_list refs c.args.c c.args.k (with_tokens p.tokens p)) (c.ask_tokens.ensures.keeps none)
    ∙ put_back p c.args.c c.args.k cpu t c.at-cpu.ensures.value c.at-thread.ensures.value
