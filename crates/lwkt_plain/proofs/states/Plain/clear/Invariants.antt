use Rattle.std.proofs.Common.{◌≡◌, ◌-◌, ◌<◌, ◌≤◌, length}
use Rattle.std.specs.Prelude.{fold}
use Rattle.lwkt_plain.specs.declared.states.TheConstants.{TURN_NOTES, CLEARED_AT_ONCE}
use Rattle.lwkt_plain.specs.Places.{moved, with_lane}
use Rattle.lwkt_plain.specs.Intakes.{below, pays, intake, receives, receives_from, clears, clears_port, wakes_at}
use Rattle.lwkt_plain.proofs.states.Plain.clear.Given as goal

abbrev pub invariant-loop-cleared : goal.invariant-loop-cleared
invariant-loop-cleared l = clears_port l.c l.k (l.left - l.cleared) l.self ≡ clears_port l.c l.k l.left l.initial.self
