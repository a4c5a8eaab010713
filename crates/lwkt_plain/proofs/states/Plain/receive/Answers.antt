use Rattle.std.proofs.Common.{◌≡◌, ◌-◌, ◌+◌, ℕ, suc, ap, sym, ◌∙◌, arith, rules, Option, Some, None}
use Rattle.std.specs.Prelude.{slice_get}
use Rattle.lwkt_plain.specs.Places.{lane_at}
use Rattle.lwkt_plain.specs.Intakes.{intake, receives, without_first, comes_in, keeps}
use Rattle.lwkt_plain.proofs.Receipts.{receives_zero, receives_end, receives_full, receives_next}
use Rattle.lwkt_plain.proofs.states.Plain.receive.Goals as goal

pub returns-in_default : goal.returns-in_default
returns-in_default c =
    let n = c.args.left - c.loop-received.received in
    let p = c.loop-received.self in
    let e : n ≡ suc (n - 1) = omega arith in
    let none : slice_get (lane_at p c.args.sender c.args.c).queue 0 ≡ None = cc in
    let stays : c.take_first.new.self ≡ p = search rules in
    sym c.loop-received.invariant ∙ receives_end c.args.c c.args.sender n (n - 1) p e none ∙ ap (intake n) (sym stays)

pub returns-then-not-branch : goal.returns-then-not-branch
returns-then-not-branch c =
    let n = c.args.left - c.loop-received.received in
    let p = c.loop-received.self in
    let note = c.in-Some.note in
    let e : n ≡ suc (n - 1) = omega arith in
    let first : slice_get (lane_at p c.args.sender c.args.c).queue 0 ≡ Some note = cc in
    let full : comes_in c.args.c note (without_first c.args.sender c.args.c p) ≡ None = search rules in
    let same : c.come_in.new.self ≡ without_first c.args.sender c.args.c p = search rules in
    let kept : c.keep.new.self ≡ keeps (Some note) c.args.sender c.args.c (without_first c.args.sender c.args.c p) =
    c.keep.ensures ∙ ap (keeps (Some note) c.args.sender c.args.c) same in
    sym c.loop-received.invariant ∙ receives_full c.args.c c.args.sender n (n - 1) p note e first full ∙ ap (intake (n - 1)) (sym kept)

pub loop-received-preserved : goal.loop-received-preserved
loop-received-preserved c =
    let n = c.args.left - c.loop-received.received in
    let p = c.loop-received.self in
    let note = c.in-Some.note in
    let e : n ≡ suc (n - 1) = omega arith in
    let f : c.args.left - (c.loop-received.received + 1) ≡ n - 1 = omega arith in
    let first : slice_get (lane_at p c.args.sender c.args.c).queue 0 ≡ Some note = cc in
    let comes : comes_in c.args.c note (without_first c.args.sender c.args.c p) ≡ Some c.come_in.new.self = search rules in
    let one = receives_next c.args.c c.args.sender n (n - 1) p note c.come_in.new.self e first comes in
    ap (λ (m : ℕ). receives c.args.c c.args.sender m c.come_in.new.self) f ∙ sym one ∙ c.loop-received.invariant

pub returns : goal.returns
returns c =
    let e : c.args.left - c.loop-received.received ≡ 0 = omega arith in
    sym c.loop-received.invariant
    ∙ ap (λ (m : ℕ). receives c.args.c c.args.sender m c.loop-received.self) e
    ∙ receives_zero c.args.c c.args.sender c.loop-received.self
