use Rattle.std.proofs.Common.{◌≡◌, ◌-◌, ◌+◌, ℕ, suc, ap, sym, ◌∙◌, arith, rules, Option, Some, None}
use Rattle.lwkt_plain.specs.Letters.{handled}
use Rattle.lwkt_plain.specs.Places.{port_at, with_letter}
use Rattle.lwkt_plain.specs.Intakes.{intake, clears_port, first_note, handles}
use Rattle.lwkt_plain.proofs.Receipts.{clears_zero, clears_end, clears_next}
use Rattle.lwkt_plain.proofs.states.Plain.clear.Goals as goal

pub returns-in_default : goal.returns-in_default
returns-in_default c =
    let n = c.args.left - c.loop-cleared.cleared in
    let p = c.loop-cleared.self in
    let e : n ≡ suc (n - 1) = omega arith in
    let none : first_note (port_at p c.args.c c.args.k) ≡ None = cc in
    let stays : c.take_note.new.self ≡ p = search rules in
    sym c.loop-cleared.invariant ∙ clears_end c.args.c c.args.k n (n - 1) p e none ∙ ap (intake n) (sym stays)

pub loop-cleared-preserved : goal.loop-cleared-preserved
loop-cleared-preserved c =
    let n = c.args.left - c.loop-cleared.cleared in
    let p = c.loop-cleared.self in
    let note = c.in-Some.note in
    let e : n ≡ suc (n - 1) = omega arith in
    let f : c.args.left - (c.loop-cleared.cleared + 1) ≡ n - 1 = omega arith in
    let first : first_note (port_at p c.args.c c.args.k) ≡ Some note = cc in
    let now : c.handle_letter.new.self ≡ handles c.args.c c.args.k None note p =
    c.handle_letter.ensures ∙ ap (with_letter (handled c.args.c None note) note.msg.0) c.take_note.ensures.rest in
    ap (λ (m : ℕ). clears_port c.args.c c.args.k m c.handle_letter.new.self) f
    ∙ ap (clears_port c.args.c c.args.k (n - 1)) now
    ∙ sym (clears_next c.args.c c.args.k n (n - 1) p note e first)
    ∙ c.loop-cleared.invariant

pub returns : goal.returns
returns c =
    let e : c.args.left - c.loop-cleared.cleared ≡ 0 = omega arith in
    sym c.loop-cleared.invariant
    ∙ ap (λ (m : ℕ). clears_port c.args.c c.args.k m c.loop-cleared.self) e
    ∙ clears_zero c.args.c c.args.k c.loop-cleared.self
