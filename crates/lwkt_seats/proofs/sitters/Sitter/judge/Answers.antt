use Rattle.std.proofs.Common.{sym, ◌∙◌}
use Rattle.lwkt_seats.proofs.BriefMoves as brief
use Rattle.lwkt_seats.proofs.CountMoves as count
use Rattle.lwkt_seats.proofs.sitters.Sitter.judge.Goals as goal

pub invariant_of-self : goal.invariant_of-self
invariant_of-self c =
    let old = c.args.self.now in
    record {
      of = c.judge.ensures.same.0 ∙ old.of;
      counted = old.counted ∙ sym (count.judges c.args.token old.seat c.judge.new.seat c.judge.result c.judge.ensures.does);
      brief = brief.judges c.args.token old.seat c.judge.new.seat c.judge.result c.judge.ensures.does old.brief;
    }
