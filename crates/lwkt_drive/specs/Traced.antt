use Rattle.std.specs.Prelude.{◌≡◌, ℕ, ◌≤◌, Bool, List, [], length, All, filter, Some, Vec, slice_get}
use Rattle.std.specs.declared.alloc.Global.{Global}
use Rattle.lwkt_base.specs.declared.asks.Ask.{Ask}
use Rattle.lwkt_base.specs.declared.asks.Answer.{Answer}
use Rattle.lwkt_base.specs.declared.names.CpuId.{CpuId}
use Rattle.lwkt_core.specs.declared.events.Event.{Event}
use Rattle.lwkt_table.specs.declared.seats.Deed.{Deed}
use Rattle.lwkt_core.specs.Events.{cpu_of}
use Rattle.lwkt_table.specs.History.{AreOthers, Passes, events_in, events_by}
use Rattle.lwkt_core.specs.Machine.{Machine}
use Rattle.lwkt_core.specs.Trace.{Run, end_of}
use Rattle.lwkt_cpu.specs.Traced.{is_of_message, TracesMail}
use Rattle.lwkt_base.specs.declared.owners.MsgEnd.{MsgEnd}
use Rattle.lwkt_bank.specs.declared.closed.Closed.{Closed}
use Rattle.lwkt_bank.specs.declared.seats.CpuSeat.{CpuSeat}
use Rattle.lwkt_bank.specs.Gathered.{IsNew, IsClosed, Ends}
use Rattle.lwkt_bank.specs.Seats.{BankId, events_of}
use Rattle.lwkt_bank.specs.Ledger.{IsDone, first_machine}
use Rattle.lwkt_hold.specs.Runs.{Ran}
use Rattle.lwkt_hold.specs.Steps.{is_of_token, AreTraced}
use Rattle.lwkt_msg.specs.Book.{Mail, mail_at}
use Rattle.lwkt_msg.specs.Desks.{Desk, Shelf, desk_cpu, events_of as mail_of, IsOpened as IsOpenedDesk, AreClosed}
use Rattle.lwkt_msg.specs.Steps.{machine_of}
use Rattle.lwkt_msg.specs.Ledger.{IsDone as IsMailDone, first_mails}
use Rattle.lwkt_cpu.specs.declared.answers.Turned.{Turned}
use Rattle.lwkt_cpu.specs.declared.threads.Thread.{Thread}
use Rattle.lwkt_cpu.specs.Processors.{Processor}
use Rattle.lwkt_cpu.specs.Turning.{IsMailed, MakesTurn}
use Rattle.lwkt_drive.specs.declared.driven.Driven.{Driven}
use Rattle.lwkt_drive.specs.declared.driven.Limits.{Limits}
use Rattle.lwkt_drive.specs.declared.driven.Ending.{Ending}
use Rattle.lwkt_drive.specs.Appending.{AppendsTurn, AppendsStop}
use Rattle.lwkt_drive.specs.Course.{IsDriven}

-- what a trace has of tokens are all events that a seat has done, in order, without looks at words and loads of cells that
-- weren't asked for; and it has no other processor's event
pub record TracesSeat (s : CpuSeat) (trace : List Event) : Type 0 where
  pub in_trace : AreTraced (events_of s) (filter is_of_token trace)
  pub own : All (λ e. cpu_of e ≡ s.cpu.0) trace

-- a theorem: the empty trace has all that a seat did that has done nothing
abbrev pub NewIsTraced : Type 0
NewIsTraced = (s : CpuSeat) → IsNew s → TracesSeat s []

-- a theorem: where a trace had all that a processor's seat did before a turn that is kept behind it, it has it afterwards
abbrev pub TurnsAreTraced : {B : Type 0} → (B → Answer → Ask → B → Type 0) → Type 0
TurnsAreTraced {B} polled = (bank : BankId) (old new : Processor B) (t u : List Event) (turned : Turned) → AppendsTurn polled bank old new t u turned → TracesSeat old.seat t → TracesSeat new.seat u

-- a theorem: where a trace had all that a processor's seat did before a stop that is kept behind it, it has it afterwards; the processor has bodies
-- that are polled so
abbrev pub StopsAreTraced : {B : Type 0} → (B → Answer → Ask → B → Type 0) → Type 0
StopsAreTraced {B} polled = (old new : Processor B) (t u : List Event) → AppendsStop old new t u → TracesSeat old.seat t → TracesSeat new.seat u

-- a theorem: where a vector had all that a processor's seat did before a turn that was traced into it, it has it afterwards
abbrev pub VectorTurnsAreTraced : {B : Type 0} → (B → Answer → Ask → B → Type 0) → Type 0
VectorTurnsAreTraced {B} polled = (bank : BankId) (old new : Processor B) (t u : Vec Event Global) (turned : Turned) → MakesTurn polled bank old new t u turned → TracesSeat old.seat t.items → TracesSeat new.seat u.items

-- a theorem: the same of a stop, in which the lists that are given up are the running thread's and those of threads that hold something
abbrev pub VectorStopsAreTraced : Type 0
VectorStopsAreTraced = (threads : List Thread) (most : ℕ) (a b : CpuSeat) (t u : Vec Event Global) → Ran (IsMailed threads) most a b t u → TracesSeat a t.items → TracesSeat b u.items

-- a theorem: where a processor's trace had all that its seat did before it was driven, it has it afterwards
abbrev pub DrivesAreTraced : {B G : Type 0} → (B → Answer → Ask → B → Type 0) → (G → CpuId → ℕ → Bool → Type 0) → Type 0
DrivesAreTraced {B} {G} polled answers = (gate : G) (bank : BankId) (limits : Limits) (old new : Driven B) (ending : Ending) → IsDriven polled (answers gate) bank limits old new ending → TracesSeat old.cpu.seat old.trace.items → TracesSeat new.cpu.seat new.trace.items

-- the traces, by processor, are the parts of one run: one history of deeds leads from the machine that was declared to one with
-- the closing values, its events are a run of the model, what each processor did in it is what its trace has, and no other
-- processor did anything (own)
pub record ArePartsOfOneRun (bank : BankId) (cpus : ℕ) (closed : Closed) (traces : List (List Event)) : Type 0 where
  pub history : List Deed
  pub last : Machine
  pub passes : Passes IsDone (first_machine bank.plans cpus) history last
  pub run : Run (first_machine bank.plans cpus) (events_in history) last
  pub ends : Ends last closed
  pub traced : (cpu : ℕ) (trace : List Event) → slice_get traces cpu ≡ Some trace → AreTraced (events_by cpu history) (filter is_of_token trace) × All (λ e. cpu_of e ≡ cpu) trace
  pub others : (cpu : ℕ) → cpus ≤ cpu → AreOthers cpu history

-- a theorem: where all that each seat did that a bank took back is in its processor's trace, the traces are the parts of one run to the
-- closing values
abbrev pub TracesArePartsOfOneRun : Type 0
TracesArePartsOfOneRun = (bank : BankId) (cpus : ℕ) (seats : List CpuSeat) (closed : Closed) (traces : List (List Event)) → IsClosed bank cpus seats closed
    → ((cpu : ℕ) (trace : List Event) → slice_get traces cpu ≡ Some trace → (s : CpuSeat) × ((slice_get seats cpu ≡ Some s) × (s.cpu.0 ≡ cpu) × TracesSeat s trace))
    → ArePartsOfOneRun bank cpus closed traces

-- what a trace has of messages are all events that a seat at the book has done, each once and in order
abbrev pub IsMailTraced : Desk → List Event → Type 0
IsMailTraced d trace = filter is_of_message trace ≡ mail_of d

-- a theorem: the empty trace has all that a seat did at a book that was just opened
abbrev pub NewMailIsTraced : Type 0
NewMailIsTraced = (cpu : ℕ) (book : Shelf) (d : Desk) → IsOpenedDesk cpu book d → IsMailTraced d []

-- a theorem: where a trace had all that a processor's seat at the book did before a turn that is kept behind it, it has it afterwards
abbrev pub MailTurnsAreTraced : {B : Type 0} → (B → Answer → Ask → B → Type 0) → Type 0
MailTurnsAreTraced {B} polled = (bank : BankId) (old new : Processor B) (t u : List Event) (turned : Turned) → AppendsTurn polled bank old new t u turned → IsMailTraced old.post.seat t → IsMailTraced new.post.seat u

-- a theorem: where a trace had all that a processor's seat at the book did before a stop that is kept behind it, it has it afterwards
abbrev pub MailStopsAreTraced : {B : Type 0} → (B → Answer → Ask → B → Type 0) → Type 0
MailStopsAreTraced {B} polled = (old new : Processor B) (t u : List Event) → AppendsStop old new t u → IsMailTraced old.post.seat t → IsMailTraced new.post.seat u

-- a theorem: where a trace had all that a seat at the book did before messages were handled and traced behind it, as `Cpu::turn` and `Cpu::stop` trace
-- them, it has it afterwards
abbrev pub MailStaysTraced : Type 0
MailStaysTraced = (a b : Desk) (t u : List Event) → TracesMail a b t u → IsMailTraced a t → IsMailTraced b u

-- a theorem: where a processor's trace had all that its seat at the book did before it was driven, it has it afterwards
abbrev pub MailDrivesAreTraced : {B G : Type 0} → (B → Answer → Ask → B → Type 0) → (G → CpuId → ℕ → Bool → Type 0) → Type 0
MailDrivesAreTraced {B} {G} polled answers = (gate : G) (bank : BankId) (limits : Limits) (old new : Driven B) (ending : Ending) → IsDriven polled (answers gate) bank limits old new ending → IsMailTraced old.cpu.post.seat old.trace.items → IsMailTraced new.cpu.post.seat new.trace.items

-- the traces, by processor, are of messages the parts of one run: one history of deeds leads from the messages that were declared
-- to messages with the closing owner states and rounds, its events are a run of the model, what each processor did in it are its
-- trace's events of messages, and no other processor did anything (own)
pub record ArePartsOfOneMailRun (book : Shelf) (ends : List MsgEnd) (traces : List (List Event)) : Type 0 where
  pub history : List Deed
  pub last : List Mail
  pub passes : Passes (IsMailDone book.cpus) (first_mails book.specs) history last
  pub run : Run (machine_of book.cpus (first_mails book.specs)) (events_in history) (machine_of book.cpus last)
  pub as_many : length ends ≡ length book.specs
  pub ends_are : (m : ℕ) (end : MsgEnd) → slice_get ends m ≡ Some end → end ≡ end_of (mail_at last m).msg
  pub traced : (cpu : ℕ) (trace : List Event) → slice_get traces cpu ≡ Some trace → filter is_of_message trace ≡ events_by cpu history
  pub others : (cpu : ℕ) → book.cpus ≤ cpu → AreOthers cpu history

-- a theorem: where all that each seat did that a book took back is in its processor's trace, the traces are of messages the parts of one run to
-- the closing owner states and rounds
abbrev pub TracesArePartsOfOneMailRun : Type 0
TracesArePartsOfOneMailRun = (book : Shelf) (seats : List Desk) (ends : List MsgEnd) (traces : List (List Event)) → AreClosed book seats ends
    → ((cpu : ℕ) (trace : List Event) → slice_get traces cpu ≡ Some trace → (d : Desk) × ((slice_get seats cpu ≡ Some d) × ((desk_cpu d).0 ≡ cpu) × IsMailTraced d trace))
    → ArePartsOfOneMailRun book ends traces
