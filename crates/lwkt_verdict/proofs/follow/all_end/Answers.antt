use Rattle.std.proofs.Common.{arith}
use Rattle.std.specs.Option.{option_copied}
use Rattle.lwkt_verdict.proofs.FollowMoves.{ended_more}
use Rattle.lwkt_verdict.proofs.follow.all_end.Goals as goal

pub loop-slot-preserved : goal.loop-slot-preserved
loop-slot-preserved c =
    let l = c.loop-slot in
    ended_more c.args.table.now c.args.lines.now l.slot c.index-table-slot.result (option_copied c.line_at.result) (omega (arith, c.loop-slot-test.true, c.requires.room)) c.index-table-slot.is c.line_at.ensures (c.ends_as.ensures.ends c.if-not-ends_as.false) l.invariant
