use Rattle.std.proofs.Common.{sym, ◌∙◌}
use Rattle.lwkt_seats.proofs.BriefMoves as brief
use Rattle.lwkt_seats.proofs.CountMoves as count
use Rattle.lwkt_seats.proofs.sitters.Sitter.read.Goals as goal

pub invariant_of-self : goal.invariant_of-self
invariant_of-self c =
    let old = c.args.self.now in
    record {
      of = c.read.ensures.same.0 ∙ old.of;
      counted = old.counted ∙ sym (count.reads c.args.token old.seat c.read.new.seat c.read.result c.read.ensures.does);
      brief = brief.reads c.args.token old.seat c.read.new.seat c.read.result c.read.ensures.does old.brief;
    }
