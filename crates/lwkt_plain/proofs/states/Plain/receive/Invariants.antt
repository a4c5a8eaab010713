use Rattle.std.proofs.Common.{◌≡◌, ◌-◌, ◌<◌, ◌≤◌, length}
use Rattle.std.specs.Prelude.{fold}
use Rattle.lwkt_plain.specs.declared.states.TheConstants.{TURN_NOTES, CLEARED_AT_ONCE}
use Rattle.lwkt_plain.specs.Places.{moved, with_lane}
use Rattle.lwkt_plain.specs.Intakes.{below, pays, intake, receives, receives_from, clears, clears_port, wakes_at}
use Rattle.lwkt_plain.proofs.states.Plain.receive.Given as goal

abbrev pub invariant-loop-received : goal.invariant-loop-received
invariant-loop-received l = receives l.c l.sender (l.left - l.received) l.self ≡ receives l.c l.sender l.left l.initial.self
