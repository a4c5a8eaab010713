use Rattle.std.proofs.Common.{ℕ, ap, sym, arith, ◌∙◌}
use Rattle.lwkt_seats.specs.Counts.{count_gave}
use Rattle.lwkt_seats.proofs.BriefMoves as brief
use Rattle.lwkt_seats.proofs.CountMoves as count
use Rattle.lwkt_seats.proofs.sitters.Sitter.give.Goals as goal

pub count_in-requires : goal.count_in-requires
count_in-requires c = λ given.
    let old = c.args.self.now in
    let some = count.gives_some c.args.token old.seat c.give-gave.new.seat c.give-gave.result c.give-gave.ensures.does given in
    let counted = old.counted in
    omega (arith, some, counted)

pub invariant_of-self : goal.invariant_of-self
invariant_of-self c =
    let old = c.args.self.now in
    record {
      of = c.give-gave.ensures.same.0 ∙ old.of;
      counted = c.count_in.ensures ∙ ap (λ (n : ℕ). count_gave c.give-gave.result n) old.counted ∙ sym (count.gives c.args.token old.seat c.give-gave.new.seat c.give-gave.result c.give-gave.ensures.does);
      brief = brief.gives c.args.token old.seat c.give-gave.new.seat c.give-gave.result c.give-gave.ensures.does old.brief;
    }
