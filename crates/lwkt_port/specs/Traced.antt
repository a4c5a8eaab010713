-- What a call traces of what its processor's seat did at the book: the trace is that of the seat's deeds (own).
use Rattle.std.specs.Prelude.{◌≡◌, List, ◌++◌}
use Rattle.lwkt_core.specs.declared.events.Event.{Event}
use Rattle.lwkt_table.specs.declared.seats.Deed.{Deed}
use Rattle.lwkt_table.specs.History.{AreOwn, Grows, events_in}
use Rattle.lwkt_msg.specs.Desks.{Desk, desk_cpu, past_of, IsSameDesk}
use Rattle.lwkt_port.specs.Works.{Work}

-- a trace grows by the events of the deeds by which what the seat has seen of the book's history grows, each once and in order; a
-- look at a message's word is a deed without an event
pub record TracesDeeds (seat seat' : Desk) (before now : List Event) : Type 0 where
  pub same : IsSameDesk seat seat'
  pub deeds : List Deed
  pub grows : Grows (desk_cpu seat).0 (past_of seat) deeds (past_of seat')
  pub mine : AreOwn (desk_cpu seat).0 deeds
  pub trace_is : now ≡ before ++ events_in deeds

-- the same of a step on messages
abbrev pub IsWorkTraced : Work → Work → Type 0
IsWorkTraced w w' = TracesDeeds w.seat w'.seat w.trace w'.trace
