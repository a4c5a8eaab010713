-- A machine (own).
use Rattle.std.specs.Prelude.{◌≡◌, ◌⊎◌, ℕ, ◌+◌, ◌≤◌, List, [], ◌∷◌, length, map, All, IsSomeAnd, Option, Some, None, Vec, slice_get, slice_index_or}
use Rattle.std.specs.declared.alloc.Global.{Global}
use Rattle.lwkt_base.specs.declared.limits.TheConstants.{CPU_LIMIT}
use Rattle.lwkt_base.specs.Law.{Obeys, IsTallied}
use Rattle.lwkt_core.specs.Tokens.{length_of}
use Rattle.lwkt_bank.specs.declared.views.Plan.{Plan}
use Rattle.lwkt_bank.specs.declared.closed.Closed.{Closed}
use Rattle.lwkt_bank.specs.Views.{RecordOf}
use Rattle.lwkt_bank.specs.Seats.{BankId, bank_of}
use Rattle.lwkt_msg.specs.Desks.{Shelf}
use Rattle.lwkt_cpu.specs.declared.answers.Status.{Status}
use Rattle.lwkt_cpu.specs.Processors.{Processor}
use Rattle.lwkt_cpu.specs.Shown.{ShowsThread}
use Rattle.lwkt_cpu.specs.Sights.{AreLinked}
use Rattle.lwkt_drive.specs.declared.driven.Driven.{Driven}

-- what callers see of a machine: which bank and which book it has; its processors, by number; and these with the events of their turns
-- and how they were driven
pub record Rig (B : Type 0) : Type 0 where
  pub bank : BankId
  pub book : Shelf
  pub cpus : List (Processor B)
  pub driven : List (Driven B)

-- the processors of these
abbrev pub processors : {B : Type 0} → List (Driven B) → List (Processor B)
processors {B} driven = map (λ (d : Driven B). d.cpu) driven

abbrev pub rig_of : {B : Type 0} → BankId → Shelf → List (Driven B) → Rig B
rig_of bank book driven = record { bank = bank; book = book; cpus = processors driven; driven = driven }

-- a processor is of this bank and this book
pub record IsOfMachine {B : Type 0} (bank : BankId) (book : Shelf) (p : Processor B) : Type 0 where
  pub bank_is : bank_of p.seat ≡ bank
  pub table_is : p.post.seat.table ≡ book.table

-- the processors have the numbers of their places
abbrev pub AreNumbered : {B : Type 0} → List (Processor B) → Type 0
AreNumbered {B} cpus = (k : ℕ) (p : Processor B) → slice_get cpus k ≡ Some p → p.seat.cpu.0 ≡ k

-- the lane from each of these processors to each one has its two ends there
abbrev pub AreAllJoined : {B : Type 0} → List (Processor B) → Type 0
AreAllJoined {B} cpus = (i j : ℕ) (s p : Processor B) → slice_get cpus i ≡ Some s → slice_get cpus j ≡ Some p → AreLinked s p

-- what bodies keep holds of each body of a processor
abbrev pub Has : {B : Type 0} → (B → Type 0) → Processor B → Type 0
Has kept p = All kept p.bodies

-- the same of a processor that is driven
abbrev pub Lasts : {B : Type 0} → (B → Type 0) → Driven B → Type 0
Lasts kept d = Has kept d.cpu

-- the same of each body of these lists
abbrev pub AreKept : {B : Type 0} → (B → Type 0) → List (Vec B Global) → Type 0
AreKept kept lists = All (λ v. All kept v.items) lists

-- a bank of so many seats, a book and processors make one machine: each processor is of the bank and the book, there is one for
-- each seat, at most 8, each is at its number, they are joined by their lanes, and what the bodies keep holds of each
pub record AreOneMachine {B : Type 0} (kept : B → Type 0) (seats : ℕ) (bank : BankId) (book : Shelf) (cpus : List (Processor B)) : Type 0 where
  pub seats_are : seats ≡ length cpus
  pub mails_are : book.cpus ≡ length cpus
  pub few : length cpus ≤ CPU_LIMIT
  pub each : All (IsOfMachine bank book) cpus
  pub numbered : AreNumbered cpus
  pub joined : AreAllJoined cpus
  pub lasting : All (Has kept) cpus

-- the same of a machine
pub record IsWhole {B : Type 0} (kept : B → Type 0) (m : Rig B) : Type 0 where
  pub parts : AreOneMachine kept (length m.cpus) m.bank m.book m.cpus
  pub cpus : m.cpus ≡ processors m.driven

-- what is shown of a thread's body, if processor and thread are there: that it is the one at this place
abbrev pub ShowsBody : {B : Type 0} → Rig B → ℕ → ℕ → Option B → Type 0
ShowsBody m cpu n None = (length m.cpus ≤ cpu) ⊎ IsSomeAnd (slice_get m.cpus cpu) (λ p. length p.threads ≤ n)
ShowsBody m cpu n (Some body) = IsSomeAnd (slice_get m.cpus cpu) (λ p. slice_get p.bodies n ≡ Some body)

-- what is shown of a thread, if processor and thread are there: what its processor shows
abbrev pub ShowsThreadAt : {B : Type 0} → Rig B → ℕ → ℕ → Option Status → Type 0
ShowsThreadAt m cpu n None = (length m.cpus ≤ cpu) ⊎ IsSomeAnd (slice_get m.cpus cpu) (λ p. length p.threads ≤ n)
ShowsThreadAt m cpu n (Some status) = IsSomeAnd (slice_get m.cpus cpu) (λ p. ShowsThread p n (Some status))

-- a token's row at the close, with its record and its tallies, meets the law that was declared for it, cell by cell
abbrev pub EndsLawfully : Plan → List ℕ → RecordOf → List ℕ → Type 0
EndsLawfully plan row blob tallies = Obeys plan.law plan.param row (length_of blob) × IsTallied plan.law plan.param row tallies

-- so do those of all tokens from this number on
abbrev pub AreLawful : ℕ → List Plan → Closed → Type 0
AreLawful tok [] closed = Unit {0}
AreLawful tok (plan ∷ plans) closed = EndsLawfully plan (slice_index_or closed.rows.items tok []) (slice_index_or closed.blobs.items tok None) (slice_index_or closed.tallies.items tok []) × AreLawful (tok + 1) plans closed
