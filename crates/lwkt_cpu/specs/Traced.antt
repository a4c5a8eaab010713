-- What a trace has of messages, beside its events of tokens.
use Rattle.std.specs.Prelude.{◌≡◌, Bool, List, [], ◌++◌, filter, not}
use Rattle.lwkt_core.specs.declared.events.Event.{Event}
use Rattle.lwkt_table.specs.declared.seats.Deed.{Deed}
use Rattle.lwkt_table.specs.History.{AreOwn, Grows, events_in}
use Rattle.lwkt_hold.specs.Steps.{is_of_token}
use Rattle.lwkt_msg.specs.Desks.{Desk, desk_cpu, past_of, IsSameDesk}

-- whether an event is one of a message
abbrev pub is_of_message : Event → Bool
is_of_message e = not (is_of_token e)

-- what a trace grows by of messages are the events of the deeds by which what the processor's seat has seen of the book's history
-- grows, each once and in order; a look at a message's word is a deed without an event (own)
pub record TracesMail (seat seat' : Desk) (before now : List Event) : Type 0 where
  pub same : IsSameDesk seat seat'
  pub deeds : List Deed
  pub grows : Grows (desk_cpu seat).0 (past_of seat) deeds (past_of seat')
  pub mine : AreOwn (desk_cpu seat).0 deeds
  pub done : List Event
  pub trace_is : now ≡ before ++ done
  pub traced : filter is_of_message done ≡ events_in deeds

-- a trace grew by events of tokens alone
pub record TracesTokensOnly (before now : List Event) : Type 0 where
  pub done : List Event
  pub trace_is : now ≡ before ++ done
  pub quiet : filter is_of_message done ≡ []
