use Rattle.std.proofs.Common.{◌≡◌, ◌∙◌, ap, subst, ℕ, ◌+◌, ◌<◌, length, List, ◌++◌, slice_set, take, drop, map}
use Rattle.lwkt_core.specs.declared.tokens.Token.{Token}
use Rattle.lwkt_plain.specs.declared.states.Plain.{Plain}
use Rattle.lwkt_plain.specs.declared.states.Processor.{Processor}
use Rattle.lwkt_plain.specs.Forms.{kept_word, cpu_by}
use Rattle.lwkt_plain.proofs.Changes.{mapped_more}
use Rattle.lwkt_plain.proofs.states.Plain.become_form.Goals as goal

pub loop-c-preserved : goal.loop-c-preserved
loop-c-preserved c =
    let before = c.args.self.now in
    let f : Processor → Processor = cpu_by (kept_word before.tokens) in
    let k = c.loop-c.c in
    let next : List Processor = map f (take (k + 1) before.cpus) ++ drop (k + 1) before.cpus in
    let inside : k < length before.cpus = subst (λ n. c.loop-c.c < n) c.len-c-end.ensures c.loop-c-test.true in
    let so_far : c.loop-c.self.cpus ≡ map f (take k before.cpus) ++ drop k before.cpus = ap (λ (p : Plain). p.cpus) c.loop-c.invariant in
    let one : slice_set c.loop-c.self.cpus k (f c.at-cpu.result.now) ≡ next = mapped_more f before.cpus c.loop-c.self.cpus k c.at-cpu.result.now inside so_far c.at-cpu.ensures.value in
    let forgot : c.forget.new.self ≡ f c.at-cpu.result.now = c.forget.ensures ∙ ap (λ (ts : List Token). cpu_by (kept_word ts) c.at-cpu.result.now) (ap (λ (p : Plain). p.tokens) c.loop-c.invariant) in
    ap (λ (cpus : List Processor). record c.loop-c.self { cpus = cpus }) (ap (slice_set c.loop-c.self.cpus k) forgot ∙ one)
    ∙ ap (λ (p : Plain). record p { cpus = next }) c.loop-c.invariant
