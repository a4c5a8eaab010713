-- What a machine leaves (own).
use Rattle.std.specs.Prelude.{◌≡◌, List, flat_map, Vec}
use Rattle.std.specs.declared.alloc.Global.{Global}
use Rattle.lwkt_core.specs.declared.events.Event.{Event}
use Rattle.lwkt_core.specs.declared.finals.Final.{Final}
use Rattle.lwkt_machine.specs.declared.closings.Closed.{Closed}
use Rattle.lwkt_machine.specs.Bodies.{Scripted}
use Rattle.lwkt_machine.specs.Ended.{IsClosedMachine}
use Rattle.lwkt_machine.specs.Machines.{Rig}
use Rattle.lwkt_run.specs.declared.endings.Remains.{Remains}

-- the events of the stops of processors, one processor's after another's
abbrev pub events_of_stops : List (Vec Event Global) → List Event
events_of_stops stops = flat_map (λ (stop : Vec Event Global). stop.items) stops

-- these closing values are those that the bank and the book of a machine gave as it closed, and these are the events of its stop
pub record Leaves (m : Rig Scripted) (stops : List Event) (last : Final) : Type 0 where
  pub closed : Closed Scripted
  pub closes : IsClosedMachine m closed
  pub stops_are : stops ≡ events_of_stops closed.stops.items
  pub rows : last.rows ≡ closed.tokens.rows
  pub gens : last.gens ≡ closed.tokens.gens
  pub tallies : last.tallies ≡ closed.tokens.tallies
  pub blobs : last.blobs ≡ closed.tokens.blobs
  pub messages : last.messages ≡ closed.messages

-- what remains of a machine that closed so: its closing values, the traces that it has kept, and the events of its stop
pub record IsLeftBy (closed : Closed Scripted) (remains : Remains) : Type 0 where
  pub stops : remains.stops.items ≡ events_of_stops closed.stops.items
  pub traces : remains.traces.items ≡ closed.traces.items
  pub rows : remains.left.last.rows ≡ closed.tokens.rows
  pub gens : remains.left.last.gens ≡ closed.tokens.gens
  pub tallies : remains.left.last.tallies ≡ closed.tokens.tallies
  pub blobs : remains.left.last.blobs ≡ closed.tokens.blobs
  pub messages : remains.left.last.messages ≡ closed.messages

-- what remains of a run is what its machine left
abbrev pub LeavesRemains : Rig Scripted → Remains → Type 0
LeavesRemains m remains = (leaves : Leaves m remains.stops.items remains.left.last) × (remains.traces.items ≡ leaves.closed.traces.items)
