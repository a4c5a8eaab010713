-- Machines whose processors are driven (own).
use Rattle.std.specs.Prelude.{◌≡◌, ℕ, Bool}
use Rattle.std.specs.List.{AllZip}
use Rattle.lwkt_base.specs.declared.asks.Ask.{Ask}
use Rattle.lwkt_base.specs.declared.asks.Answer.{Answer}
use Rattle.lwkt_base.specs.declared.names.CpuId.{CpuId}
use Rattle.lwkt_drive.specs.declared.driven.Limits.{Limits}
use Rattle.lwkt_drive.specs.declared.driven.Ending.{Ending}
use Rattle.lwkt_drive.specs.declared.driven.Ending.TheVariants.{NoMemory, CalledOff}
use Rattle.lwkt_drive.specs.Course.{IsDriven}
use Rattle.lwkt_machine.specs.Machines.{Rig, processors}

-- an end that isn't for want of memory, its own or another processor's
abbrev pub IsAmple : Ending → Type 0
IsAmple (NoMemory refused) = ⊥
IsAmple (CalledOff refused) = ⊥
IsAmple _ = Unit {0}

-- the machine's processors were driven
pub record IsDrivenMachine {B : Type 0} (polled : B → Answer → Ask → B → Type 0) (answers : CpuId → ℕ → Bool → Type 0) (limits : Limits) (old new : Rig B) : Type 0 where
  pub bank : new.bank ≡ old.bank
  pub book : new.book ≡ old.book
  pub driven : AllZip (λ d e. IsDriven polled answers old.bank limits d e e.ending) old.driven new.driven
  pub olds : old.cpus ≡ processors old.driven
  pub news : new.cpus ≡ processors new.driven
