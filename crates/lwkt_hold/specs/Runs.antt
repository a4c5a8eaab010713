use Rattle.std.specs.Prelude.{◌≡◌, ℕ, ◌+◌, ◌≤◌, List, [], ◌∷◌, ◌++◌, length, All, filter, Vec, vec_len, vec_capacity}
use Rattle.std.specs.List.{AllZip}
use Rattle.std.specs.declared.alloc.Global.{Global}
use Rattle.lwkt_base.specs.Holding.{Holding}
use Rattle.lwkt_core.specs.declared.events.Event.{Event}
use Rattle.lwkt_table.specs.declared.seats.Deed.{Deed}
use Rattle.lwkt_table.specs.History.{AreOwn, Grows, events_in, steps_in}
use Rattle.lwkt_core.specs.Events.{cpu_of}
use Rattle.lwkt_bank.specs.declared.seats.CpuSeat.{CpuSeat}
use Rattle.lwkt_bank.specs.Seats.{bank_of, holding, past_of}
use Rattle.lwkt_hold.specs.Steps.{held_after, is_counted, is_of_token, is_on_word, ShowsEvent, AreTraced}

-- the holding goes from one to the other by these events, and after each of them it is such a one
abbrev pub Moves : (Holding → Type 0) → Holding → List Event → Holding → Type 0
Moves P h [] h' = h' ≡ h
Moves P h (e ∷ events) h' = P (held_after e h) × Moves P (held_after e h) events h'

-- what a call does on a seat and a trace: what the trace grows by of tokens are the events of the deeds by which what the seat
-- has seen of the bank's history grows, in order, without looks at words and loads of cells and records that weren't asked for; it grows at
-- most by so many events, each of the seat's processor; after each of them the holding is such a one; the trace has lost no room
-- (own)
pub record Ran (P : Holding → Type 0) (most : ℕ) (old new : CpuSeat) (before now : Vec Event Global) : Type 0 where
  pub bank : bank_of new ≡ bank_of old
  pub cpu : new.cpu ≡ old.cpu
  pub deeds : List Deed
  pub grows : Grows old.cpu.0 (past_of old) deeds (past_of new)
  pub mine : AreOwn old.cpu.0 deeds
  pub done : List Event
  pub trace : now.items ≡ before.items ++ done
  pub own : All (λ e. cpu_of e ≡ old.cpu.0) done
  pub in_trace : AreTraced (events_in deeds) (filter is_of_token done)
  pub traced : AllZip ShowsEvent (filter is_counted (steps_in deeds)) (filter is_on_word done)
  pub moves : Moves P (holding old) done (holding new)
  pub few : length done ≤ most
  pub grown : vec_len now ≡ vec_len before + length done
  pub room : vec_capacity before ≤ vec_capacity now
