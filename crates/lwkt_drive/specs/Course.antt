use Rattle.std.specs.Prelude.{◌≡◌, ◌⊎◌, ℕ, ◌+◌, ◌<◌, ◌≤◌, ◌%◌, ◌^◌, Bool, true, false, List, [], ◌∷◌, ◌++◌, length, take, fold, Vec}
use Rattle.std.specs.declared.alloc.Global.{Global}
use Rattle.atomic_table.specs.Seated.{TableId}
use Rattle.lwkt_base.specs.declared.names.CpuId.{CpuId}
use Rattle.lwkt_base.specs.declared.asks.Ask.{Ask}
use Rattle.lwkt_base.specs.declared.asks.Answer.{Answer}
use Rattle.lwkt_core.specs.declared.events.Event.{Event}
use Rattle.lwkt_bank.specs.Seats.{BankId, bank_of}
use Rattle.lwkt_cpu.specs.declared.answers.Turned.{Turned}
use Rattle.lwkt_cpu.specs.declared.answers.Turned.TheVariants.{Ran, Idle, AllExited as TurnedAllExited}
use Rattle.lwkt_cpu.specs.declared.answers.Drove.{Drove}
use Rattle.lwkt_cpu.specs.Processors.{Processor}
use Rattle.lwkt_cpu.specs.Driving.{with_turn, none_driven}
use Rattle.lwkt_drive.specs.ShortEvents.{KeptTrace}
use Rattle.lwkt_drive.specs.declared.driven.Driven.{Driven}
use Rattle.lwkt_drive.specs.declared.driven.Limits.{Limits}
use Rattle.lwkt_drive.specs.declared.driven.Said.{Said}
use Rattle.lwkt_drive.specs.declared.driven.Ending.{Ending}
use Rattle.lwkt_drive.specs.Appending.{AppendsTurn, AppendsTurns, LacksMemory}
use Rattle.lwkt_drive.specs.declared.driven.Ending.TheVariants.{NotDriven, Stopped, TurnsOut, IdleOut, AllExited, NoMemory, CalledOff, Quiet}

-- a processor at this bank and book
pub record IsAtTables {B : Type 0} (bank : BankId) (book : TableId) (d : Driven B) : Type 0 where
  pub bank_is : bank_of d.cpu.seat ≡ bank
  pub book_is : d.cpu.post.seat.table ≡ book

-- how many of these turns ran a thread, how many ran none, and whether one said that every thread had ended
abbrev pub counts : List Turned → Drove
counts turns = fold with_turn none_driven turns

-- neither limit is passed
pub record IsBelowLimits (limits : Limits) (drove : Drove) : Type 0 where
  pub ran : drove.ran ≤ limits.turns
  pub idle : drove.idle ≤ limits.idle

-- after so many turns, counted so, a processor makes another: neither limit is reached, and the gate may let it go on
pub record MakesAnother (answers : CpuId → ℕ → Bool → Type 0) (limits : Limits) (cpu : CpuId) (turns : ℕ) (drove : Drove) : Type 0 where
  pub ran : drove.ran < limits.turns
  pub idle : drove.idle < limits.idle
  pub passed : answers cpu turns true

-- what the gate has said to a processor as its drive begins: nothing yet, and one drive more has begun
abbrev pub said_at_start : Said → Said
said_at_start said = record { drives = (said.drives + 1) % 2 ^ 64; yeses = 0; no = false }

-- what it has said with one yes more
abbrev pub agreed : Said → Said
agreed said = record said { yeses = (said.yeses + 1) % 2 ^ 64 }

-- what it has said after so many turns of a drive that began so: one yes to each
abbrev pub heard : ℕ → Said → Said
heard turns said = record (said_at_start said) { yeses = turns % 2 ^ 64 }

-- what the gate has said to a processor as its drive ends so: no where it ends by that; yes once more where it ends for want of memory,
-- to the turn that wasn't made; and otherwise what it had said
abbrev pub said_at_end : Ending → Said → Said
said_at_end NotDriven said = said
said_at_end Stopped said = record said { no = true }
said_at_end TurnsOut said = said
said_at_end IdleOut said = said
said_at_end AllExited said = said
said_at_end (NoMemory refused) said = agreed said
said_at_end (CalledOff refused) said = said
said_at_end Quiet said = said

-- after so many turns, counted so, a processor with this room and trace makes no other, and why; one that ends for want of memory was to
-- make another, whose events its room or its trace had no place for. Nothing is claimed of the others: neither that their threads have ended, nor that they were
-- refused memory, nor that no turn of theirs can change anything; but the last turn of one that ends as quiet was silent, by its mark
abbrev pub EndsBy : (CpuId → ℕ → Bool → Type 0) → Limits → CpuId → ℕ → Drove → Bool → Vec Event Global → KeptTrace → Ending → Type 0
EndsBy answers limits cpu turns drove silent room trace NotDriven = ⊥
EndsBy answers limits cpu turns drove silent room trace Stopped = answers cpu turns false
EndsBy answers limits cpu turns drove silent room trace TurnsOut = drove.ran ≡ limits.turns
EndsBy answers limits cpu turns drove silent room trace IdleOut = drove.idle ≡ limits.idle
EndsBy answers limits cpu turns drove silent room trace AllExited = drove.all_exited ≡ true
EndsBy answers limits cpu turns drove silent room trace (NoMemory refused) = MakesAnother answers limits cpu turns drove × LacksMemory room trace
EndsBy answers limits cpu turns drove silent room trace (CalledOff refused) = Unit {0}
EndsBy answers limits cpu turns drove silent room trace Quiet = silent ≡ true

-- a turn ran no thread
abbrev pub RanNone : Turned → Type 0
RanNone (Ran thread) = ⊥
RanNone Idle = Unit {0}
RanNone TurnedAllExited = Unit {0}

-- a turn was silent: it ran no thread and appended no event
abbrev pub WasSilent : Turned → List Event → List Event → Type 0
WasSilent turned t u = RanNone turned × (u ≡ t)

-- turns were made, and the last of them was silent
abbrev pub EndsSilent : {B : Type 0} (polled : B → Answer → Ask → B → Type 0) (bank : BankId) (old new : Processor B) (t u : List Event) (turns : List Turned) → AppendsTurns polled bank old new t u turns → Type 0
EndsSilent polled bank old new t u [] made = ⊥
EndsSilent polled bank old new t u (turned ∷ []) made = WasSilent turned t u
EndsSilent polled bank old new t u (turned ∷ next ∷ turns) made = EndsSilent polled bank made.0 new made.1.0 u (next ∷ turns) made.1.1.1

-- a processor makes its turn of this number, to which the gate says yes once and which is counted; it is marked only if it was silent
pub record MakesOne {B : Type 0} (polled : B → Answer → Ask → B → Type 0) (answers : CpuId → ℕ → Bool → Type 0) (bank : BankId) (limits : Limits) (turn : ℕ) (old new : Driven B) : Type 0 where
  pub turned : Turned
  pub goes : MakesAnother answers limits old.id turn old.drove
  pub makes : AppendsTurn polled bank old.cpu new.cpu old.trace.items new.trace.items turned
  pub drove : new.drove ≡ with_turn old.drove turned
  pub silent : new.silent ≡ true → WasSilent turned old.trace.items new.trace.items
  pub said : new.said ≡ agreed old.said

-- a processor stays as it is, and why
pub record StaysAndWhy {B : Type 0} (answers : CpuId → ℕ → Bool → Type 0) (limits : Limits) (turn : ℕ) (old new : Driven B) (ending : Ending) : Type 0 where
  pub cpu : new.cpu ≡ old.cpu
  pub trace : new.trace.items ≡ old.trace.items
  pub drove : new.drove ≡ old.drove
  pub silent : new.silent ≡ old.silent
  pub said : new.said ≡ said_at_end ending old.said
  pub ends : EndsBy answers limits old.id turn old.drove old.silent new.room new.trace ending

-- a processor was driven: it made these turns one after the other, each where it went on, until there was a reason to end, which is the
-- gate's no where the gate has said no to it since this drive began; the gate said yes once to each turn, and once more only where the
-- drive ends for want of memory; the trace grew by theirs; where the last turn is marked as silent, it was (own)
pub record IsDriven {B : Type 0} (polled : B → Answer → Ask → B → Type 0) (answers : CpuId → ℕ → Bool → Type 0) (bank : BankId) (limits : Limits) (old new : Driven B) (ending : Ending) : Type 0 where
  pub turns : List Turned
  pub made : AppendsTurns polled bank old.cpu new.cpu old.trace.items new.trace.items turns
  pub going : (k : ℕ) → k < length turns → MakesAnother answers limits old.id k (counts (take k turns))
  pub drove : new.drove ≡ counts turns
  pub silent : new.silent ≡ true → EndsSilent polled bank old.cpu new.cpu old.trace.items new.trace.items turns made
  pub said : new.said ≡ said_at_end ending (heard (length turns) old.said)
  pub ends : EndsBy answers limits old.id (length turns) new.drove new.silent new.room new.trace ending
  pub same : new.id ≡ old.id
  pub seat : new.cpu.seat.cpu ≡ old.cpu.seat.cpu

-- a processor was driven, and its last turn ran no thread and appended no event: after the earlier turns it was as `before` with this
-- trace, it made the last turn from there to what it is now, and its trace has the same events still (own)
pub record EndedSilently {B : Type 0} (polled : B → Answer → Ask → B → Type 0) (bank : BankId) (old new : Driven B) : Type 0 where
  pub earlier : List Turned
  pub last : Turned
  pub drove : new.drove ≡ counts (earlier ++ last ∷ [])
  pub before : Processor B
  pub trace : List Event
  pub came : AppendsTurns polled bank old.cpu before old.trace.items trace earlier
  pub makes : AppendsTurn polled bank before new.cpu trace new.trace.items last
  pub ran_none : RanNone last
  pub no_event : new.trace.items ≡ trace

-- a theorem: where a drive ends as quiet, it made a turn, and its last turn ran no thread and appended no event
abbrev pub QuietEndsAreSilent : {B G : Type 0} → (B → Answer → Ask → B → Type 0) → (G → CpuId → ℕ → Bool → Type 0) → Type 0
QuietEndsAreSilent {B} {G} polled answers = (gate : G) (bank : BankId) (limits : Limits) (old new : Driven B) → IsDriven polled (answers gate) bank limits old new Quiet → EndedSilently polled bank old new

-- a processor before its first turn of a drive
abbrev pub drive_begun : {B : Type 0} → Driven B → Driven B
drive_begun d = record d { said = said_at_start d.said; drove = none_driven; silent = false; ending = NotDriven }

-- a processor is being driven: so far it has made these turns one after the other, each where it went on, and the gate has said yes
-- once to each, and not no, since this drive began; the trace grew by theirs; where the last one is marked as silent, it was (own)
pub record IsUnderWay {B : Type 0} (polled : B → Answer → Ask → B → Type 0) (answers : CpuId → ℕ → Bool → Type 0) (bank : BankId) (limits : Limits) (old new : Driven B) : Type 0 where
  pub turns : List Turned
  pub made : AppendsTurns polled bank old.cpu new.cpu old.trace.items new.trace.items turns
  pub going : (k : ℕ) → k < length turns → MakesAnother answers limits old.id k (counts (take k turns))
  pub drove : new.drove ≡ counts turns
  pub all : new.drove.ran + new.drove.idle ≡ length turns
  pub silent : new.silent ≡ true → EndsSilent polled bank old.cpu new.cpu old.trace.items new.trace.items turns made
  pub said : new.said ≡ heard (length turns) old.said
  pub same : new.id ≡ old.id
  pub seat : new.cpu.seat.cpu ≡ old.cpu.seat.cpu

-- a processor's driving so far: it is under way and hasn't ended, or it was driven and ended so
abbrev pub IsSo : {B : Type 0} → (B → Answer → Ask → B → Type 0) → (CpuId → ℕ → Bool → Type 0) → BankId → Limits → Driven B → Driven B → Ending → Type 0
IsSo polled answers bank limits old new ending = ((ending ≡ NotDriven) × IsUnderWay polled answers bank limits old new) ⊎ IsDriven polled answers bank limits old new ending

-- what asking for a turn comes to: none is made, and why; or one is made, after which the processor leaves its slice
abbrev pub ComesTo : {B : Type 0} → (B → Answer → Ask → B → Type 0) → (CpuId → ℕ → Bool → Type 0) → BankId → Limits → ℕ → Driven B → Driven B → Ending → Type 0
ComesTo polled answers bank limits turn old new ending = ((ending ≡ NotDriven) × MakesOne polled answers bank limits turn old new) ⊎ StaysAndWhy answers limits turn old new ending

-- a processor goes on: from wherever it was under way, it still is, or it ends so
abbrev pub GoesTo : {B : Type 0} → (B → Answer → Ask → B → Type 0) → (CpuId → ℕ → Bool → Type 0) → BankId → Limits → Driven B → Driven B → Ending → Type 0
GoesTo {B} polled answers bank limits mid new ending = (old : Driven B) → IsUnderWay polled answers bank limits old mid → IsSo polled answers bank limits old new ending

-- a slice of a processor's driving: wherever it came from, it has gone on from there; and where it hasn't ended, it has made a turn
pub record DrivesOn {B : Type 0} (polled : B → Answer → Ask → B → Type 0) (answers : CpuId → ℕ → Bool → Type 0) (bank : BankId) (limits : Limits) (mid new : Driven B) : Type 0 where
  pub so : (old : Driven B) → IsSo polled answers bank limits old mid mid.ending → IsSo polled answers bank limits old new new.ending
  pub more : new.ending ≡ NotDriven → (mid.ending ≡ NotDriven) × (mid.drove.ran + mid.drove.idle < new.drove.ran + new.drove.idle)

-- the rest of a processor's driving: wherever it came from, it was driven from there to its end
abbrev pub DrivesOut : {B : Type 0} → (B → Answer → Ask → B → Type 0) → (CpuId → ℕ → Bool → Type 0) → BankId → Limits → Driven B → Driven B → Type 0
DrivesOut {B} polled answers bank limits mid new = (old : Driven B) → IsSo polled answers bank limits old mid mid.ending → IsDriven polled answers bank limits old new new.ending
