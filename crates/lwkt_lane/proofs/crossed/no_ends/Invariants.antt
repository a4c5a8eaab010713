use Rattle.std.proofs.Common.{◌≡◌, length}
use Rattle.lwkt_lane.specs.Crossed.{AreLong}
use Rattle.lwkt_lane.proofs.crossed.no_ends.Given as goal

abbrev pub invariant-loop-made : goal.invariant-loop-made
invariant-loop-made l = record {
  as_many : length l.ins.items ≡ l.made;
  empty : AreLong 0 l.ins.items;
}
