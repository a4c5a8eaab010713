use Rattle.std.specs.Prelude.{◌≡◌, ℕ, if◌then◌else◌, List, length, Vec, Option, Some, None, option_map, slice_get, slice_set}
use Rattle.std.specs.declared.alloc.Global.{Global}
use Rattle.lwkt_base.specs.declared.asks.Answer.{Answer}
use Rattle.lwkt_base.specs.Holding.{holds_nothing}
use Rattle.lwkt_core.specs.declared.events.Event.{Event}
use Rattle.lwkt_bank.specs.Seats.{holding}
use Rattle.lwkt_port.specs.Closings.{PostCloses, PostPays}
use Rattle.lwkt_port.specs.Posts.{Post}
use Rattle.lwkt_cpu.specs.declared.nexts.Next.{Next}
use Rattle.lwkt_cpu.specs.declared.nexts.Next.TheVariants.{Exits}
use Rattle.lwkt_cpu.specs.Leaving.{GivesUp}
use Rattle.lwkt_cpu.specs.declared.phases.Phase.TheVariants.{Exited}
use Rattle.lwkt_cpu.specs.declared.threads.Thread.{Thread}
use Rattle.lwkt_cpu.specs.Processors.{Processor, is_over, AllOver}
use Rattle.lwkt_cpu.specs.Searches.{ended_by}
use Rattle.lwkt_cpu.specs.Ending.{has_not_ended, ClosesPorts}
use Rattle.lwkt_cpu.specs.Polling.{became}

-- a thread after a stop: one that has ended stays as it is, and any other exits
abbrev pub stopped : Thread → Thread
stopped t = if is_over t.phase then t else ended_by Exited t

-- each thread is stopped
abbrev pub AreThreadsStopped : List Thread → List Thread → Type 0
AreThreadsStopped olds news = (k : ℕ) → slice_get news k ≡ option_map stopped (slice_get olds k)

-- the thread of this number gives up everything and ends: by itself, or, where a section had broken its law, by that fault; its
-- port is closed
pub record Halts {B : Type 0} (old new : Processor B) (t u : Vec Event Global) (place : ℕ) : Type 0 where
  pub before : Thread
  pub next : Next Answer
  pub at_before : slice_get old.threads place ≡ Some before
  pub gives_up : GivesUp old.seat new.seat before.list (length before.list) t u Exits next
  pub threads : new.threads ≡ slice_set old.threads place (became before next)
  pub closes : PostCloses place old.post new.post
  pub bodies : new.bodies ≡ old.bodies
  pub running : new.running ≡ None

-- the thread that runs halts, if any does
abbrev pub HaltsRunning : {B : Type 0} → Processor B → Processor B → Vec Event Global → Vec Event Global → Option ℕ → Type 0
HaltsRunning old new t u None = (new ≡ old) × (u ≡ t)
HaltsRunning old new t u (Some place) = Halts old new t u place

-- a processor stopped: the trace is given room, the thread that runs halts, every thread that hasn't ended exits and its port is
-- closed, and then the replies that are owed go out as lanes have room; no notes are taken in
pub record Stops {B : Type 0} (old new : Processor B) (t u : Vec Event Global) : Type 0 where
  pub room : Vec Event Global
  pub same : room.items ≡ t.items
  pub mid : Processor B
  pub v : Vec Event Global
  pub halts : HaltsRunning old mid room v old.running
  pub shut : Post
  pub closes : ClosesPorts has_not_ended mid.threads mid.post shut
  pub pays : PostPays shut new.post v u
  pub seat : new.seat ≡ mid.seat
  pub bodies : new.bodies ≡ old.bodies
  pub threads : AreThreadsStopped mid.threads new.threads
  pub over : AllOver new.threads
  pub none_runs : new.running ≡ None
  pub empty : holding new.seat ≡ holds_nothing
