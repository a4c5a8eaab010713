use Rattle.std.proofs.Common.{sym, ◌∙◌}
use Rattle.lwkt_seats.proofs.BriefMoves as brief
use Rattle.lwkt_seats.proofs.CountMoves as count
use Rattle.lwkt_seats.proofs.sitters.Sitter.mark.Goals as goal

pub invariant_of-self : goal.invariant_of-self
invariant_of-self c =
    let old = c.args.self.now in
    record {
      of = c.mark.ensures.same.0 ∙ old.of;
      counted = old.counted ∙ sym (count.marks c.args.token old.seat c.mark.new.seat c.mark.result c.mark.ensures.does);
      brief = brief.marks c.args.token old.seat c.mark.new.seat c.mark.result c.mark.ensures.does old.brief;
    }
