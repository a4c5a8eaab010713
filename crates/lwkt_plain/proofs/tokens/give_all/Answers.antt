use Rattle.std.proofs.Common.{◌≡◌, ◌<◌, ◌≤◌, ◌-◌, ℕ, List, length, get_or, drop, take, ap, sym, ◌∙◌, subst, arith, Bool, true, false}
use Rattle.std.specs.Prelude.{slice_get, ◌||◌}
use Rattle.std.specs.Option.{option_map_or}
use Rattle.std.proofs.lemmas.List.{drop_all}
use Rattle.lwkt_base.specs.declared.names.Mode.TheVariants.{Exclusive}
use Rattle.lwkt_base.specs.declared.names.Ref.{Ref}
use Rattle.lwkt_core.specs.declared.tokens.Token.{Token}
use Rattle.lwkt_plain.specs.Sound.{AreSoundTokens}
use Rattle.lwkt_core.specs.Machine.{changed}
use Rattle.lwkt_plain.specs.Tokens.{gave, gives, given, is_broken}
use Rattle.lwkt_plain.proofs.Givings.{gives_none, give_state, give_holds, give_step}
use Rattle.lwkt_plain.proofs.tokens.give_all.Goals as goal

pub loop-left-init : goal.loop-left-init
loop-left-init c =
    (omega arith, sym (ap (gives c.args.cpu c.args.tokens.now) (drop_all (length c.args.refs.now) c.args.refs.now (omega arith)) ∙ gives_none c.args.cpu c.args.tokens.now))

pub give-ended-requires-clause-sound : goal.give-ended-requires-clause-sound
give-ended-requires-clause-sound c =
    (give_state c.args.cpu c.args.tokens.now c.loop-left.tokens c.args.refs.now c.loop-left.left c.loop-left.broken c.requires.here c.requires.sound c.requires.held c.loop-left.invariant.1).0.sound

pub give-ended-requires-clause-holds : goal.give-ended-requires-clause-holds
give-ended-requires-clause-holds c =
    let state = give_state c.args.cpu c.args.tokens.now c.loop-left.tokens c.args.refs.now c.loop-left.left c.loop-left.broken c.requires.here c.requires.sound c.requires.held c.loop-left.invariant.1 in
    let within : c.loop-left.left ≤ length c.args.refs.now = c.loop-left.invariant.0 in
    give_holds c.args.cpu.0 c.loop-left.tokens c.args.refs.now c.loop-left.left (record { tok = record { 0 = 0 }; mode = Exclusive }) state.1 (omega arith) within

pub loop-left-preserved-then-broken : goal.loop-left-preserved-then-broken
loop-left-preserved-then-broken c =
    let d : Ref = record { tok = record { 0 = 0 }; mode = Exclusive } in
    let within : c.loop-left.left ≤ length c.args.refs.now = c.loop-left.invariant.0 in
    let now = c.loop-left.tokens in
    let r = get_or c.args.refs.now (c.loop-left.left - 1) d in
    let e = option_map_or (is_broken c.args.cpu) (slice_get now r.tok.0) false in
    let step = give_step c.args.cpu c.args.tokens.now now c.args.refs.now c.loop-left.left c.loop-left.broken d (omega arith) within c.loop-left.invariant.1 in
    let yes : (c.loop-left.broken || e) ≡ c.loop-left.broken = ap (λ (b : Bool). b || e) c.if-broken.true ∙ sym c.if-broken.true in (
      omega (arith, within),
      ap (λ (ts : List Token). gave ts c.loop-left.broken) c.give-ended.ensures.tokens ∙ ap (gave (changed (given c.args.cpu r.tok) now r.tok.0)) (sym yes) ∙ sym step,
    )

pub loop-left-preserved : goal.loop-left-preserved
loop-left-preserved c =
    let d : Ref = record { tok = record { 0 = 0 }; mode = Exclusive } in
    let within : c.loop-left.left ≤ length c.args.refs.now = c.loop-left.invariant.0 in
    let now = c.loop-left.tokens in
    let r = get_or c.args.refs.now (c.loop-left.left - 1) d in
    let e = option_map_or (is_broken c.args.cpu) (slice_get now r.tok.0) false in
    let step = give_step c.args.cpu c.args.tokens.now now c.args.refs.now c.loop-left.left c.loop-left.broken d (omega arith) within c.loop-left.invariant.1 in
    let yes : (c.loop-left.broken || e) ≡ c.give-ended.result = ap (λ (b : Bool). b || e) c.if-broken.false ∙ sym c.give-ended.ensures.broken in (
      omega (arith, within),
      ap (λ (ts : List Token). gave ts c.give-ended.result) c.give-ended.ensures.tokens ∙ ap (gave (changed (given c.args.cpu r.tok) now r.tok.0)) (sym yes) ∙ sym step,
    )
