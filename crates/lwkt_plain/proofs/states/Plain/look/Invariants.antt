use Rattle.std.proofs.Common.{◌≡◌}
use Rattle.lwkt_plain.specs.Places.{port_at}
use Rattle.lwkt_plain.specs.Intakes.{looks, notes_in}
use Rattle.lwkt_plain.proofs.states.Plain.look.Given as goal

abbrev pub invariant-loop-note : goal.invariant-loop-note
invariant-loop-note l = looks l.c l.k l.self ≡ looks l.c l.k l.initial.self

abbrev pub decreases-loop-note : goal.decreases-loop-note
decreases-loop-note l = notes_in (port_at l.self l.c l.k)
