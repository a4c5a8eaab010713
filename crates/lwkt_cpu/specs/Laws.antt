use Rattle.std.specs.Prelude.{◌≡◌, ℕ, List, ◌++◌, filter, Vec}
use mathlib.Core.Option.{some}
use lib.ListN.{get_elem?}
use Rattle.std.specs.declared.alloc.Global.{Global}
use Rattle.atomic_table.specs.Table.{State}
use Rattle.lwkt_base.specs.declared.asks.Ask.{Ask}
use Rattle.lwkt_base.specs.declared.asks.Answer.{Answer}
use Rattle.lwkt_base.specs.declared.records.Rec.{Rec}
use Rattle.lwkt_core.specs.declared.events.Event.{Event}
use Rattle.lwkt_table.specs.declared.seats.Deed.{Deed}
use Rattle.lwkt_table.specs.declared.seats.SeatKind.TheVariants.{Of}
use Rattle.lwkt_core.specs.Machine.{Machine, IsSafe}
use Rattle.lwkt_core.specs.Trace.{Run}
use Rattle.lwkt_table.specs.History.{AreOwn, events_in, events_by, steps_in, steps_by}
use Rattle.lwkt_bank.specs.declared.views.Plan.{Plan}
use Rattle.lwkt_bank.specs.declared.seats.CpuSeat.{CpuSeat}
use Rattle.lwkt_bank.specs.Rule.{Bench, Pictures}
use Rattle.lwkt_bank.specs.Ledger.{Ledger, first_machine}
use Rattle.lwkt_bank.specs.Seats.{BankId, events_of, steps_of}
use Rattle.lwkt_hold.specs.Steps.{is_of_token, AreTraced}
use Rattle.lwkt_msg.specs.declared.views.Key.{Key}
use Rattle.lwkt_msg.specs.declared.views.View.{View}
use Rattle.lwkt_msg.specs.Steps.{machine_of}
use Rattle.lwkt_msg.specs.Ledger.{Ledger as BookLedger, first_mails}
use Rattle.lwkt_cpu.specs.declared.answers.Turned.{Turned}
use Rattle.lwkt_cpu.specs.Processors.{Processor}
use Rattle.lwkt_cpu.specs.Turning.{MakesTurn}

-- what a seat did from one time to another is a part of one run: one history of the deeds of all seats leads from the machine that was
-- declared to the one that the table shows, its events a run of the model; what the processor has in it is what it had before
-- and then the deeds of this time, whose events are those that the trace grew by, without looks
pub record IsPartOfRun (plans : List Plan) (cpus : ℕ) (s : Bench) (old new : CpuSeat) (t u : Vec Event Global) : Type 0 where
  pub history : List Deed
  pub machine : Machine
  pub run : Run (first_machine plans cpus) (events_in history) machine
  pub shown : Pictures plans cpus s machine
  pub deeds : List Deed
  pub own : AreOwn old.cpu.0 deeds
  pub events : events_by old.cpu.0 history ≡ events_of old ++ events_in deeds
  pub steps : steps_by old.cpu.0 history ≡ steps_of old ++ steps_in deeds
  pub done : List Event
  pub trace : u.items ≡ t.items ++ done
  pub in_trace : AreTraced (events_in deeds) (filter is_of_token done)

-- a theorem: whatever the other seats do before, during and after a turn, what it did at the bank is a part of one run; this is so
-- of each state of the bank's table that meets its rule and in which the seat stands as the turn left it
abbrev pub TurnsArePartsOfRuns : {B : Type 0} → (B → Answer → Ask → B → Type 0) → Type 0
TurnsArePartsOfRuns {B} polled = (bank : BankId) (old new : Processor B) (t u : Vec Event Global) (turned : Turned) → MakesTurn polled bank old new t u turned
    → (plans : List Plan) (cpus : ℕ) (s : Bench) (j : ℕ) → Ledger plans cpus s → get_elem? s.views j ≡ some new.seat.seat.me.0 → new.seat.seat.me.0.kind ≡ Of new.seat.cpu
    → IsPartOfRun plans cpus s old.seat new.seat t u

-- a theorem: whatever the other seats do, each state of the book's table that meets its rule and in which the ports' seat of a
-- processor stands shows a safe machine, which one history of the deeds of all seats leads to, its events a run of the model; what
-- the processor has in it is what its seat has seen of itself
abbrev pub MailsArePartsOfRuns : Type 0 → Type 0
MailsArePartsOfRuns B = (p : Processor B) (key : Key) (s : State Rec View) (j : ℕ) (ledger : BookLedger key s) → get_elem? s.views j ≡ some p.post.seat.view → p.post.seat.view.kind ≡ Of p.seat.cpu
    → IsSafe (machine_of key.cpus ledger.rule.mails)
    × Run (machine_of key.cpus (first_mails key.specs.items)) (events_in ledger.chronicle.history) (machine_of key.cpus ledger.rule.mails)
    × (events_by p.seat.cpu.0 ledger.chronicle.history ≡ events_by p.seat.cpu.0 p.post.seat.view.past)
