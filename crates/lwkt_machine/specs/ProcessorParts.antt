-- The parts of a machine's processors in what was done (own).
use Rattle.std.specs.Prelude.{ℕ, Bool, List, [], ◌∷◌, ◌++◌, length, Vec, Some, slice_get, ◌≡◌}
use Rattle.std.specs.declared.alloc.Global.{Global}
use Rattle.lwkt_base.specs.declared.asks.Ask.{Ask}
use Rattle.lwkt_base.specs.declared.asks.Answer.{Answer}
use Rattle.lwkt_base.specs.declared.names.CpuId.{CpuId}
use Rattle.lwkt_core.specs.declared.events.Event.{Event}
use Rattle.lwkt_drive.specs.ShortEvents.{KeptTrace}
use Rattle.lwkt_drive.specs.declared.driven.Driven.{Driven}
use Rattle.lwkt_drive.specs.declared.driven.Limits.{Limits}
use Rattle.lwkt_drive.specs.Traced.{ArePartsOfOneRun, ArePartsOfOneMailRun}
use Rattle.lwkt_script.specs.declared.scripts.Script.{Script}
use Rattle.lwkt_machine.specs.declared.closings.Closed.{Closed}
use Rattle.lwkt_machine.specs.Bodies.{Scripted, IsPolled}
use Rattle.lwkt_machine.specs.Drives.{IsDrivenMachine}
use Rattle.lwkt_machine.specs.Ended.{IsClosedMachine}
use Rattle.lwkt_machine.specs.Machines.{Rig, processors}
use Rattle.lwkt_machine.specs.Opened.{IsOpenedDriven}
use Rattle.lwkt_machine.specs.Scripts.{IsOpenedScript}

-- what each processor did: the events of its turns, by its own trace, and then those of its stop
abbrev pub parts_of : List KeptTrace → List (Vec Event Global) → List (List Event)
parts_of [] stops = []
parts_of (trace ∷ traces) [] = []
parts_of (trace ∷ traces) (stop ∷ stops) = (trace.items ++ stop.items) ∷ parts_of traces stops

-- these are, by processor, the parts of one run of the model on tokens and of one on messages, from what a machine's bank and book
-- were opened with to these closing values; no order is claimed between an event of the one and one of the other
pub record ArePartsOfRuns {B : Type 0} (m : Rig B) (closed : Closed B) (parts : List (List Event)) : Type 0 where
  pub tokens : ArePartsOfOneRun m.bank (length m.cpus) closed.tokens parts
  pub messages : ArePartsOfOneMailRun m.book closed.messages.items parts

-- each processor of a machine is as it is opened, whatever its bodies are
pub record AreJustOpened {B : Type 0} (m : Rig B) : Type 0 where
  pub cpus : m.cpus ≡ processors m.driven
  pub each : (k : ℕ) (d : Driven B) → slice_get m.driven k ≡ Some d → (bodies : List B) × IsOpenedDriven m.bank m.book k bodies d

-- a theorem: what the processors of a machine did, from its opening on, while they were driven and then as they stopped at the close, are
-- the parts of such runs, to the values at the close
abbrev pub DrivesArePartsOfRuns : {B G : Type 0} → (B → Answer → Ask → B → Type 0) → (G → CpuId → ℕ → Bool → Type 0) → Type 0
DrivesArePartsOfRuns {B} {G} polled answers = (gate : G) (limits : Limits) (opened driven : Rig B) (closed : Closed B)
    → AreJustOpened opened → IsDrivenMachine polled (answers gate) limits opened driven → IsClosedMachine driven closed
    → ArePartsOfRuns opened closed (parts_of closed.traces.items closed.stops.items)

-- the same theorem of the machine of a script
abbrev pub ThreadsArePartsOfRuns : {G : Type 0} → (G → CpuId → ℕ → Bool → Type 0) → Type 0
ThreadsArePartsOfRuns {G} answers = (gate : G) (limits : Limits) (script : Script) (opened driven : Rig Scripted) (closed : Closed Scripted)
    → IsOpenedScript script opened → IsDrivenMachine IsPolled (answers gate) limits opened driven → IsClosedMachine driven closed
    → ArePartsOfRuns opened closed (parts_of closed.traces.items closed.stops.items)
