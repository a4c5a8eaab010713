use Rattle.lwkt_lane.specs.Lane.{IsLane}
use Rattle.lwkt_tests.proofs.lane.play_lines.Given as goal

abbrev pub invariant-loop-at : goal.invariant-loop-at
invariant-loop-at l = IsLane l.out l.into
