use Rattle.std.proofs.Common.{ℕ, ◌-◌, ap, sym, refl, ◌∙◌, arith}
use Rattle.lwkt_seats.specs.declared.answers.GaveBack.TheVariants.{Given}
use Rattle.lwkt_seats.proofs.BriefMoves as brief
use Rattle.lwkt_seats.proofs.CountMoves as count
use Rattle.lwkt_seats.proofs.sitters.Sitter.give_quietly.Goals as goal

pub overflow_sub-self : goal.overflow_sub-self
overflow_sub-self c =
    let old = c.args.self.now in
    let gives = c.give_quietly.ensures.gives c.if-not-give_quietly.false in
    let some = count.gives_some c.args.token old.seat c.give_quietly.new.seat Given gives refl in
    let counted = old.counted in
    omega (arith, some, counted)

pub invariant_of-self-2 : goal.invariant_of-self-2
invariant_of-self-2 c =
    let old = c.args.self.now in
    let gives = c.give_quietly.ensures.gives c.if-not-give_quietly.false in
    record {
      of = c.give_quietly.ensures.same.0 ∙ old.of;
      counted = ap (λ (n : ℕ). n - 1) old.counted ∙ sym (count.gives c.args.token old.seat c.give_quietly.new.seat Given gives);
      brief = brief.gives c.args.token old.seat c.give_quietly.new.seat Given gives old.brief;
    }
