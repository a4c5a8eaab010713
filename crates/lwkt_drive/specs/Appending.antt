-- What a processor does is traced into an empty room, and its events go behind its trace (own).
use Rattle.std.specs.Prelude.{◌≡◌, ◌⊎◌, ◌+◌, ◌<◌, ◌≤◌, List, [], ◌∷◌, ◌++◌, length, Vec, vec_len, vec_capacity}
use Rattle.std.specs.declared.alloc.Global.{Global}
use Rattle.lwkt_base.specs.declared.asks.Ask.{Ask}
use Rattle.lwkt_base.specs.declared.asks.Answer.{Answer}
use Rattle.lwkt_core.specs.declared.events.Event.{Event}
use Rattle.lwkt_drive.specs.ShortEvents.{KeptTrace}
use Rattle.lwkt_cpu.specs.Traced.{TracesMail}
use Rattle.lwkt_bank.specs.Seats.{BankId}
use Rattle.lwkt_hold.specs.Runs.{Ran}
use Rattle.lwkt_port.specs.Posts.{IsSamePost}
use Rattle.lwkt_cpu.specs.declared.answers.Turned.{Turned}
use Rattle.lwkt_cpu.specs.declared.turns.TheConstants.{TURN_EVENTS}
use Rattle.lwkt_cpu.specs.Processors.{Processor}
use Rattle.lwkt_cpu.specs.Stopping.{Stops}
use Rattle.lwkt_cpu.specs.Turning.{IsMailed, LacksRoom, MakesTurn}
use Rattle.lwkt_drive.specs.declared.driven.Driven.{Driven}

-- something was done and traced into an empty room, and the events that it left there went behind those before
pub record IsAppended (Does : Vec Event Global → Vec Event Global → Type 0) (old new : List Event) : Type 0 where
  pub room : Vec Event Global
  pub part : Vec Event Global
  pub none : room.items ≡ []
  pub does : Does room part
  pub grown : new ≡ old ++ part.items

-- a processor makes a turn, whose events are kept
abbrev pub AppendsTurn : {B : Type 0} → (B → Answer → Ask → B → Type 0) → BankId → Processor B → Processor B → List Event → List Event → Turned → Type 0
AppendsTurn polled bank old new t u turned = IsAppended (λ room part. MakesTurn polled bank old new room part turned) t u

-- turns made one after the other, the events of each of which are kept
abbrev pub AppendsTurns : {B : Type 0} → (B → Answer → Ask → B → Type 0) → BankId → Processor B → Processor B → List Event → List Event → List Turned → Type 0
AppendsTurns polled bank old new t u [] = (new ≡ old) × (u ≡ t)
AppendsTurns {B} polled bank old new t u (turned ∷ turns) = (mid : Processor B) × ((v : List Event) × (AppendsTurn polled bank old mid t v turned × AppendsTurns polled bank mid new v u turns))

-- a processor stops, and the events by which a trace grows are what its seats at bank and book did; its lanes are the same ones
pub record TracesStop {B : Type 0} (old new : Processor B) (t u : Vec Event Global) : Type 0 where
  pub stops : Stops old new t u
  pub ran : Ran (IsMailed old.threads) 258 old.seat new.seat t u
  pub traced : TracesMail old.post.seat new.post.seat t.items u.items
  pub same : IsSamePost old.post new.post

-- a processor stops, and its events are kept
abbrev pub AppendsStop : {B : Type 0} → Processor B → Processor B → List Event → List Event → Type 0
AppendsStop old new t u = IsAppended (TracesStop old new) t u

-- a room has no place for the events of a turn, or a trace has none for as many
abbrev pub LacksMemory : Vec Event Global → KeptTrace → Type 0
LacksMemory room trace = LacksRoom room ⊎ (trace.capacity < length trace.items + TURN_EVENTS)

-- the room into which a processor's next turn is told is empty, and it and the trace have places for the events of a turn
pub record HasTurnRoom {B : Type 0} (d : Driven B) : Type 0 where
  pub none : d.room.items ≡ []
  pub room : vec_len d.room + TURN_EVENTS ≤ vec_capacity d.room
  pub trace : length d.trace.items + TURN_EVENTS ≤ d.trace.capacity
