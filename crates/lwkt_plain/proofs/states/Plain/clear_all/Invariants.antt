use Rattle.std.proofs.Common.{◌≡◌, ◌-◌, ◌<◌, ◌≤◌, length}
use Rattle.std.specs.Prelude.{fold}
use Rattle.lwkt_plain.specs.declared.states.TheConstants.{TURN_NOTES, CLEARED_AT_ONCE}
use Rattle.lwkt_plain.specs.Places.{moved, with_lane}
use Rattle.lwkt_plain.specs.Intakes.{below, pays, intake, receives, receives_from, clears, clears_port, wakes_at}
use Rattle.lwkt_plain.proofs.states.Plain.clear_all.Given as goal

abbrev pub invariant-loop-k : goal.invariant-loop-k
invariant-loop-k l = intake l.left l.self ≡ fold (clears l.c) (intake CLEARED_AT_ONCE l.fn.self) (below l.k)
