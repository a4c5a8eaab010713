use Rattle.std.proofs.Common.{sym, ◌∙◌}
use Rattle.lwkt_seats.proofs.BriefMoves as brief
use Rattle.lwkt_seats.proofs.CountMoves as count
use Rattle.lwkt_seats.proofs.sitters.Sitter.restore.Goals as goal

pub invariant_of-self : goal.invariant_of-self
invariant_of-self c =
    let old = c.args.self.now in
    record {
      of = c.restore.ensures.same.0 ∙ old.of;
      counted = old.counted ∙ sym (count.restores c.args.token old.seat c.restore.new.seat c.restore.result c.restore.ensures.does);
      brief = brief.restores c.args.token old.seat c.restore.new.seat c.restore.result c.restore.ensures.does old.brief;
    }
