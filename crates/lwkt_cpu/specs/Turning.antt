use Rattle.std.specs.Prelude.{◌≡◌, ◌⊎◌, ℕ, ◌+◌, ◌<◌, ◌≤◌, Bool, if◌then◌else◌, List, Vec, vec_len, vec_capacity, Option, Some, None, slice_get, slice_set}
use Rattle.std.specs.declared.alloc.Global.{Global}
use Rattle.lwkt_base.specs.declared.asks.Ask.{Ask}
use Rattle.lwkt_base.specs.declared.asks.Answer.{Answer}
use Rattle.lwkt_base.specs.Holding.{Holding, holding_of, holds_nothing}
use Rattle.lwkt_core.specs.declared.events.Event.{Event}
use Rattle.atomic_table.specs.Seated.{TableId}
use Rattle.lwkt_bank.specs.Seats.{BankId, bank_of, holding}
use Rattle.lwkt_hold.specs.Runs.{Ran as Runs}
use Rattle.lwkt_port.specs.Posts.{IsSamePost}
use Rattle.lwkt_cpu.specs.Traced.{TracesMail}
use Rattle.lwkt_cpu.specs.declared.phases.Phase.TheVariants.{Live}
use Rattle.lwkt_cpu.specs.declared.answers.Turned.{Turned}
use Rattle.lwkt_cpu.specs.declared.answers.Turned.TheVariants.{Ran, Idle, AllExited}
use Rattle.lwkt_cpu.specs.declared.threads.Thread.{Thread}
use Rattle.lwkt_cpu.specs.declared.turns.TheConstants.{TURN_EVENTS}
use Rattle.lwkt_cpu.specs.Processors.{Processor, AllOver, IsAtRest}
use Rattle.lwkt_cpu.specs.Searches.{point, FindsThread, IsOfOne}
use Rattle.lwkt_cpu.specs.Ending.{is_worn, ClosesPorts}
use Rattle.lwkt_cpu.specs.Polling.{Polls}
use Rattle.lwkt_cpu.specs.Waking.{TakesMail}

-- the caller's condition of a turn: the processor's seats are of this bank and this book (own)
pub record IsSeatedAt {B : Type 0} (bank : BankId) (book : TableId) (p : Processor B) : Type 0 where
  pub of_bank : bank_of p.seat ≡ bank
  pub of_book : p.post.seat.table ≡ book

-- where the next search begins: past the thread that was found
abbrev pub cursor_after : ℕ → Option ℕ → ℕ
cursor_after cursor None = cursor
cursor_after cursor (Some place) = place + 1

-- the thread of a turn, by the one that runs: it goes on, and nothing was done; or the one that a search finds runs, and the ports
-- of those that met a last generation are closed
abbrev pub Chooses : {B : Type 0} → Processor B → Processor B → Vec Event Global → Vec Event Global → Option ℕ → Option ℕ → Type 0
Chooses old new t u (Some place) found = (found ≡ Some place) × (new ≡ old) × (u ≡ t)
Chooses old new t u None found = FindsThread old.cursor (point old.seat old.threads t) (point new.seat new.threads u) found × ClosesPorts is_worn new.threads old.post new.post × (new.bodies ≡ old.bodies) × (new.running ≡ found) × (new.cursor ≡ cursor_after old.cursor found)

-- the thread of this number can run and its list is held; its body is polled and its ask performed, and no other thread or body
-- changes; it goes on running or not
pub record RunsOne {B : Type 0} (polled : B → Answer → Ask → B → Type 0) (bank : BankId) (old new : Processor B) (t u : Vec Event Global) (place : ℕ) : Type 0 where
  pub before : Thread
  pub now : Thread
  pub body : B
  pub next_body : B
  pub runs : Bool
  pub at_before : slice_get old.threads place ≡ Some before
  pub at_body : slice_get old.bodies place ≡ Some body
  pub live : before.phase ≡ Live
  pub held : holding old.seat ≡ holding_of before.list
  pub polls : Polls polled bank place old.seat new.seat old.post new.post body next_body before now t u runs
  pub threads : new.threads ≡ slice_set old.threads place now
  pub bodies : new.bodies ≡ slice_set old.bodies place next_body
  pub running : new.running ≡ (if runs then Some place else None)
  pub cursor : new.cursor ≡ old.cursor

-- a turn by its answer: a thread was chosen and polled; or none was chosen, and not every thread has ended; or every thread has
abbrev pub Turns : {B : Type 0} → (B → Answer → Ask → B → Type 0) → BankId → Processor B → Processor B → Vec Event Global → Vec Event Global → Turned → Type 0
Turns {B} polled bank old new t u (Ran place) = (mid : Processor B) × ((v : Vec Event Global) × (Chooses old mid t v old.running (Some place) × RunsOne polled bank mid new v u place))
Turns polled bank old new t u Idle = Chooses old new t u old.running None × ¬ AllOver new.threads
Turns polled bank old new t u AllExited = Chooses old new t u old.running None × AllOver new.threads

-- a holding is nothing, or that of a front of some thread's list
abbrev pub IsMailed : List Thread → Holding → Type 0
IsMailed threads h = (h ≡ holds_nothing) ⊎ IsOfOne threads h

-- a holding is nothing, or that of a front of some thread's list, as the lists stood at the beginning or stand at the end
abbrev pub IsOfThread : List Thread → List Thread → Holding → Type 0
IsOfThread olds news h = (h ≡ holds_nothing) ⊎ IsOfOne olds h ⊎ IsOfOne news h

-- a trace has the events that it had, and no less room
abbrev pub HasSameEvents : Vec Event Global → Vec Event Global → Type 0
HasSameEvents t u = (u.items ≡ t.items) × (vec_len u ≡ vec_len t) × (vec_capacity t ≤ vec_capacity u)

-- a trace has no room for the events of a turn
abbrev pub LacksRoom : Vec Event Global → Type 0
LacksRoom t = vec_capacity t < vec_len t + TURN_EVENTS

-- a whole turn: the trace is given room for 4,096 events, mail is taken in, and then the turn is made; each event is one of the seat's steps, and
-- after it the seat holds what a front of one thread's list holds; at its end the seat holds exactly the list of the thread that runs, in
-- its modes, or nothing if none runs; and the ports are still the same ones, over the same lanes
pub record MakesTurn {B : Type 0} (polled : B → Answer → Ask → B → Type 0) (bank : BankId) (old new : Processor B) (t u : Vec Event Global) (turned : Turned) : Type 0 where
  pub room : Vec Event Global
  pub same : room.items ≡ t.items
  pub mid : Processor B
  pub v : Vec Event Global
  pub mail : TakesMail old mid room v
  pub turns : Turns polled bank mid new v u turned
  pub ran : Runs (IsOfThread old.threads new.threads) TURN_EVENTS old.seat new.seat t u
  pub traced : TracesMail old.post.seat new.post.seat t.items u.items
  pub ports : IsSamePost old.post new.post
  pub rest : IsAtRest new
