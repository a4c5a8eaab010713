use Rattle.std.proofs.Common.{length}
use Rattle.lwkt_lane.specs.Crossed.{AreLanes}
use Rattle.lwkt_lane.proofs.crossed.lanes_from_all.Given as goal

abbrev pub invariant-loop-from : goal.invariant-loop-from
invariant-loop-from l = AreLanes l.from (length l.initial.ins) l.outs.items l.ins
