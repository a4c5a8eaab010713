use Rattle.lwkt_lane.proofs.CrossedMoves.{HasEndsBelow}
use Rattle.lwkt_lane.proofs.crossed.lanes_to_all.Given as goal

abbrev pub invariant-loop-to : goal.invariant-loop-to
invariant-loop-to l = HasEndsBelow l.to l.initial.ins l.ins l.outs.items
