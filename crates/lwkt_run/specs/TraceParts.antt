-- The parts of a run's processors in what was done (own).
use Rattle.std.specs.Prelude.{ℕ, ◌+◌, ◌==◌, List, [], ◌∷◌, ◌++◌, filter}
use Rattle.lwkt_core.specs.declared.events.Event.{Event}
use Rattle.lwkt_core.specs.Events.{cpu_of}
use Rattle.lwkt_drive.specs.ShortEvents.{KeptTrace}

-- the events of a processor among others'
abbrev pub of_cpu : ℕ → List Event → List Event
of_cpu cpu events = filter (λ e. cpu_of e == cpu) events

-- what each processor from this number on did: the events of its turns, by its own trace, and then those of its stop
abbrev pub parts_from : ℕ → List KeptTrace → List Event → List (List Event)
parts_from cpu [] stops = []
parts_from cpu (trace ∷ traces) stops = (trace.items ++ of_cpu cpu stops) ∷ parts_from (cpu + 1) traces stops
