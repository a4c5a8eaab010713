-- A machine as it is opened (own).
use Rattle.std.specs.Prelude.{◌≡◌, ℕ, ◌≤◌, List, [], length, map, replicate, All, Vec, Some, None, slice_get}
use Rattle.std.specs.declared.alloc.Global.{Global}
use Rattle.lwkt_base.specs.declared.faults.Fault.{Fault}
use Rattle.lwkt_base.specs.declared.faults.Fault.TheVariants.{Memory, Limits, LawBroken}
use Rattle.lwkt_base.specs.declared.opening_specs.MsgSpec.{MsgSpec}
use Rattle.lwkt_base.specs.declared.opening_specs.TokSpec.{TokSpec}
use Rattle.lwkt_base.specs.declared.limits.TheConstants.{THREAD_LIMIT}
use Rattle.lwkt_core.specs.Opening.{AreWithin, AllOpenLawfully}
use Rattle.lwkt_bank.specs.declared.seats.CpuSeat.{CpuSeat}
use Rattle.lwkt_bank.specs.Gathered.{IsNew}
use Rattle.lwkt_bank.specs.Opened.{plans_of}
use Rattle.lwkt_bank.specs.Seats.{BankId, bank_of}
use Rattle.lwkt_msg.specs.Desks.{Shelf, desk_cpu, IsOpened}
use Rattle.lwkt_port.specs.OpenedPorts.{new_mail, AreNewPorts}
use Rattle.lwkt_cpu.specs.Driving.{none_driven}
use Rattle.lwkt_cpu.specs.Fresh.{fresh}
use Rattle.lwkt_cpu.specs.Processors.{Processor}
use Rattle.lwkt_cpu.specs.Wiring.{AreWired}
use Rattle.lwkt_drive.specs.declared.driven.Driven.{Driven}
use Rattle.lwkt_drive.specs.declared.driven.Ending.TheVariants.{NotDriven}
use Rattle.lwkt_machine.specs.Machines.{Rig, processors}

-- a seat of the bank that has done nothing, of the processor of this number
pub record IsSeat (bank : BankId) (cpu : ℕ) (s : CpuSeat) : Type 0 where
  pub bank_is : bank_of s ≡ bank
  pub new : IsNew s
  pub number : s.cpu.0 ≡ cpu

-- the processor of this number as it is opened: its seat at the bank has done nothing, its seat at the book has its own messages at
-- rest, its ports are empty, those of threads that aren't there closed, and its bodies are these, in order, each with a thread that was
-- never polled, none of which runs
pub record IsOpenedCpu {B : Type 0} (bank : BankId) (book : Shelf) (cpu : ℕ) (bodies : List B) (p : Processor B) : Type 0 where
  pub seat : IsSeat bank cpu p.seat
  pub desk : IsOpened cpu book p.post.seat
  pub ports : AreNewPorts (length bodies) p.post.ports
  pub mails : p.post.mails ≡ map (new_mail (desk_cpu p.post.seat)) (map (λ (spec : MsgSpec). spec.origin) book.specs)
  pub bodies_are : p.bodies ≡ bodies
  pub threads_are : p.threads ≡ replicate (length bodies) fresh
  pub none_runs : p.running ≡ None
  pub cursor : p.cursor ≡ 0

-- why no bank and book of so many processors are opened: out of memory, of which nothing is claimed; or a limit is passed; or within
-- the limits an opening row breaks its law
abbrev pub DeclinesTables : ℕ → List TokSpec → List MsgSpec → Fault → Type 0
DeclinesTables cpus tokens messages (Memory refused) = Unit {0}
DeclinesTables cpus tokens messages Limits = ¬ AreWithin cpus tokens messages
DeclinesTables cpus tokens messages LawBroken = AreWithin cpus tokens messages × ¬ AllOpenLawfully tokens
DeclinesTables cpus tokens messages _ = ⊥

-- the processor of this number wasn't driven and has no events
pub record IsFresh {B : Type 0} (cpu : ℕ) (d : Driven B) : Type 0 where
  pub id : d.id.0 ≡ cpu
  pub trace : d.trace.items ≡ []
  pub drove : d.drove ≡ none_driven
  pub ending : d.ending ≡ NotDriven

-- the same of each of these at its number
abbrev pub AreFresh : {B : Type 0} → List (Driven B) → Type 0
AreFresh {B} cpus = (k : ℕ) (d : Driven B) → slice_get cpus k ≡ Some d → IsFresh k d

-- the processor of this number as it is opened, with these bodies; it wasn't driven and has no events
pub record IsOpenedDriven {B : Type 0} (bank : BankId) (book : Shelf) (cpu : ℕ) (bodies : List B) (d : Driven B) : Type 0 where
  pub opened : IsOpenedCpu bank book cpu bodies d.cpu
  pub fresh : IsFresh cpu d

-- each processor of a list is as it is opened, and at its number, with the bodies that were handed in for it
abbrev pub AreOpenedCpus : {B : Type 0} → BankId → Shelf → List (Vec B Global) → List (Driven B) → Type 0
AreOpenedCpus {B} bank book lists cpus = (k : ℕ) (v : Vec B Global) (d : Driven B) → slice_get lists k ≡ Some v → slice_get cpus k ≡ Some d → IsOpenedDriven bank book k v.items d

-- a machine as it is opened: a bank of these tokens, a book of these messages, and a processor for each list of bodies, as it is
-- opened, with new lanes from each to each
pub record IsOpenedMachine {B : Type 0} (tokens : List TokSpec) (messages : List MsgSpec) (lists : List (Vec B Global)) (m : Rig B) : Type 0 where
  pub plans : m.bank.plans ≡ plans_of tokens
  pub specs : m.book.specs ≡ messages
  pub desks_are : m.book.cpus ≡ length lists
  pub as_many : length m.cpus ≡ length lists
  pub each : AreOpenedCpus m.bank m.book lists m.driven
  pub cpus : m.cpus ≡ processors m.driven
  pub wired : AreWired m.cpus

-- an opening keeps the limits, those of bank and book, and at most 16 bodies for each processor
pub record IsWithin {B : Type 0} (tokens : List TokSpec) (messages : List MsgSpec) (lists : List (Vec B Global)) : Type 0 where
  pub tables : AreWithin (length lists) tokens messages
  pub few : All (λ v. length v.items ≤ THREAD_LIMIT) lists

-- why no machine is opened: out of memory, of which nothing is claimed; or a limit is passed; or within the limits an opening row
-- breaks its law
abbrev pub Declines : {B : Type 0} → List TokSpec → List MsgSpec → List (Vec B Global) → Fault → Type 0
Declines tokens messages lists (Memory refused) = Unit {0}
Declines tokens messages lists Limits = ¬ IsWithin tokens messages lists
Declines tokens messages lists LawBroken = IsWithin tokens messages lists × ¬ AllOpenLawfully tokens
Declines tokens messages lists _ = ⊥
