use Rattle.std.proofs.Common.{sym, ◌∙◌}
use Rattle.lwkt_seats.proofs.BriefMoves as brief
use Rattle.lwkt_seats.proofs.CountMoves as count
use Rattle.lwkt_seats.proofs.sitters.Sitter.load.Goals as goal

pub invariant_of-self : goal.invariant_of-self
invariant_of-self c =
    let old = c.args.self.now in
    record {
      of = c.load.ensures.same.0 ∙ old.of;
      counted = old.counted ∙ sym (count.loads c.args.token c.args.cell old.seat c.load.new.seat c.load.result c.load.ensures.does);
      brief = brief.loads c.args.token c.args.cell old.seat c.load.new.seat c.load.result c.load.ensures.does old.brief;
    }
