use Rattle.std.proofs.Common.{◌≡◌, ◌-◌, ◌<◌, ◌≤◌, length}
use Rattle.std.specs.Prelude.{fold}
use Rattle.lwkt_plain.specs.declared.states.TheConstants.{TURN_NOTES, CLEARED_AT_ONCE}
use Rattle.lwkt_plain.specs.Places.{moved, with_lane}
use Rattle.lwkt_plain.specs.Intakes.{below, pays, intake, receives, receives_from, clears, clears_port, wakes_at}
use Rattle.lwkt_plain.proofs.states.Plain.wake_all.Given as goal

abbrev pub invariant-loop-k : goal.invariant-loop-k
invariant-loop-k l = l.self ≡ fold (wakes_at l.c) l.initial.self (below l.k)
