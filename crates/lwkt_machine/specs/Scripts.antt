-- The machine of a script as it is opened (own).
use Rattle.std.specs.Prelude.{◌≡◌, ℕ, ◌<◌, ◌≤◌, ◌==◌, List, length, map, filter, Vec, Some, slice_get}
use Rattle.std.specs.declared.alloc.Global.{Global}
use Rattle.lwkt_base.specs.declared.faults.Fault.{Fault}
use Rattle.lwkt_base.specs.declared.faults.Fault.TheVariants.{Memory, Limits, LawBroken}
use Rattle.lwkt_base.specs.declared.limits.TheConstants.{THREAD_LIMIT}
use Rattle.lwkt_core.specs.Opening.{AreWithin, AllOpenLawfully}
use Rattle.lwkt_script.specs.declared.scripts.Script.{Script}
use Rattle.lwkt_script.specs.declared.scripts.ThreadSpec.{ThreadSpec}
use Rattle.lwkt_script.specs.Format.{threads_on}
use Rattle.lwkt_bank.specs.Opened.{plans_of}
use Rattle.lwkt_bank.specs.Seats.{BankId}
use Rattle.lwkt_msg.specs.Desks.{Shelf}
use Rattle.lwkt_cpu.specs.Processors.{Processor}
use Rattle.lwkt_cpu.specs.Wiring.{AreWired}
use Rattle.lwkt_machine.specs.Bodies.{Scripted, unpolled}
use Rattle.lwkt_machine.specs.Machines.{Rig, processors}
use Rattle.lwkt_machine.specs.Opened.{AreFresh, IsOpenedCpu}

-- the body of a thread of a script
abbrev pub body_of : ThreadSpec → Scripted
body_of t = unpolled t.code

-- the bodies of the threads of a processor, in the script's order
abbrev pub bodies_on : ℕ → List ThreadSpec → List Scripted
bodies_on cpu threads = map body_of (filter (λ t. t.cpu.0 == cpu) threads)

-- each of these lists has the bodies of the threads of the processor of its number
abbrev pub AreBodiesOf : List ThreadSpec → List (Vec Scripted Global) → Type 0
AreBodiesOf threads lists = (k : ℕ) (v : Vec Scripted Global) → slice_get lists k ≡ Some v → v.items ≡ bodies_on k threads

-- each processor of a list is as it is opened, at its number, with the bodies of the threads of this number
abbrev pub AreScriptCpus : BankId → Shelf → List ThreadSpec → List (Processor Scripted) → Type 0
AreScriptCpus bank book threads cpus = (k : ℕ) (p : Processor Scripted) → slice_get cpus k ≡ Some p → IsOpenedCpu bank book k (bodies_on k threads) p

-- a machine as a script opens it: a bank of its tokens, a book of its messages, and its processors, each as it is opened, with new
-- lanes from each to each
pub record IsOpenedScript (script : Script) (m : Rig Scripted) : Type 0 where
  pub plans : m.bank.plans ≡ plans_of script.tokens
  pub specs : m.book.specs ≡ script.messages
  pub as_many : length m.cpus ≡ script.cpus
  pub desks_are : m.book.cpus ≡ script.cpus
  pub each : AreScriptCpus m.bank m.book script.threads m.cpus
  pub fresh : AreFresh m.driven
  pub cpus : m.cpus ≡ processors m.driven
  pub wired : AreWired m.cpus

-- none of so many processors has more than 16 of these threads
abbrev pub AreFew : ℕ → List ThreadSpec → Type 0
AreFew cpus threads = (cpu : ℕ) → cpu < cpus → threads_on cpu threads ≤ THREAD_LIMIT

-- the opening of a script keeps the limits, those of bank and book, and at most 16 threads for each processor
pub record IsScriptWithin (script : Script) : Type 0 where
  pub tables : AreWithin script.cpus script.tokens script.messages
  pub few : AreFew script.cpus script.threads

-- why no machine of a script is opened: out of memory, of which nothing is claimed; or a limit is passed; or within the limits an
-- opening row breaks its law
abbrev pub DeclinesScript : Script → Fault → Type 0
DeclinesScript script (Memory refused) = Unit {0}
DeclinesScript script Limits = ¬ IsScriptWithin script
DeclinesScript script LawBroken = IsScriptWithin script × ¬ AllOpenLawfully script.tokens
DeclinesScript script _ = ⊥
