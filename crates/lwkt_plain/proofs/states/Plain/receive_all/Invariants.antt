use Rattle.std.proofs.Common.{◌≡◌, ◌-◌, ◌<◌, ◌≤◌, length}
use Rattle.std.specs.Prelude.{fold}
use Rattle.lwkt_plain.specs.declared.states.TheConstants.{TURN_NOTES, CLEARED_AT_ONCE}
use Rattle.lwkt_plain.specs.Places.{moved, with_lane}
use Rattle.lwkt_plain.specs.Intakes.{below, pays, intake, receives, receives_from, clears, clears_port, wakes_at}
use Rattle.lwkt_plain.proofs.states.Plain.receive_all.Given as goal

abbrev pub invariant-loop-sender : goal.invariant-loop-sender
invariant-loop-sender l = intake l.left l.self ≡ fold (receives_from l.c) (intake TURN_NOTES l.fn.self) (below l.sender)
