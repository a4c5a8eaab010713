use Rattle.std.specs.Prelude.{◌≡◌, ℕ, ◌+◌, ◌<◌, ◌≤◌, List, length, slice_index}
use mathlib.Core.Option.{some}
use lib.ListN.{get_elem?}
use Rattle.atomic_table.specs.Table.{Me, State, Step}
use Rattle.lwkt_base.specs.declared.opening_specs.MsgSpec.{MsgSpec}
use Rattle.lwkt_base.specs.declared.records.Rec.{Rec}
use Rattle.lwkt_base.specs.MessageWord.{message_word}
use Rattle.lwkt_table.specs.declared.seats.SeatKind.TheVariants.{Of}
use Rattle.lwkt_core.specs.Machine.{IsSafe}
use Rattle.lwkt_core.specs.Trace.{Run}
use Rattle.lwkt_table.specs.History.{IsPastOf, events_in, events_by, steps_by}
use Rattle.lwkt_msg.specs.declared.views.Key.{Key}
use Rattle.lwkt_msg.specs.declared.views.View.{View}
use Rattle.lwkt_msg.specs.Views.{word_at}
use Rattle.lwkt_msg.specs.Book.{Knows, IsBook, mail_at, parts_of}
use Rattle.lwkt_msg.specs.Steps.{machine_of}
use Rattle.lwkt_msg.specs.Ledger.{Ledger, first_mails}
use Rattle.lwkt_msg.specs.Desks.{Desk, Shelf, desk_cpu, entry, past_of, events_of, steps_of}

-- a word of the table is this number in a state of the book's rule, of a book that was declared so
pub record IsMailNow (specs : List MsgSpec) (cpus word found : ℕ) : Type 0 where
  pub key : Key
  pub specs_are : key.specs.items ≡ specs
  pub cpus_are : key.cpus ≡ cpus
  pub state : State Rec View
  pub ledger : Ledger key state
  pub is : found ≡ slice_index state.words word

-- and a seat has this view in that state
pub record IsMailBeside (specs : List MsgSpec) (cpus : ℕ) (v : View) (word found : ℕ) : Type 0 where
  pub now : IsMailNow specs cpus word found
  pub at : ℕ
  pub here : get_elem? now.state.views at ≡ some v

-- what a load shows that a new seat makes; and one of a seat that stays as it is
abbrev pub finds_mail : List MsgSpec → ℕ → Step Rec → Me Rec View → ℕ → Me Rec View → Type 0
finds_mail specs cpus st m n m' = IsMailNow specs cpus st.word n

abbrev pub finds_mail_beside : List MsgSpec → ℕ → Step Rec → Me Rec View → ℕ → Me Rec View → Type 0
finds_mail_beside specs cpus st m n m' = (m' ≡ m) × IsMailBeside specs cpus m.0 st.word n

-- the headline in a state of a book's table: words, records and views show messages that are safe, which a run of the model leads to
-- from those declared; each send was taken or dropped at most once, and each take replied to at most once
pub record IsSoundBook (key : Key) (s : State Rec View) (ledger : Ledger key s) : Type 0 where
  pub run : Run (machine_of key.cpus (first_mails key.specs.items)) (events_in ledger.chronicle.history) (machine_of key.cpus ledger.rule.mails)
  pub shown : IsBook key ledger.rule.mails s
  pub safe : IsSafe (machine_of key.cpus ledger.rule.mails)
  pub taken_once : (m : ℕ) → m < length key.specs.items → (mail_at ledger.rule.mails m).msg.takes + (mail_at ledger.rule.mails m).msg.drops ≤ (mail_at ledger.rule.mails m).msg.sends
  pub replied_once : (m : ℕ) → m < length key.specs.items → (mail_at ledger.rule.mails m).msg.replies ≤ (mail_at ledger.rule.mails m).msg.takes

-- this was found as the word of a message: it is that of a state of the book's table in which the headline holds, and shows the
-- message there
pub record IsMailFound (book : Shelf) (m found : ℕ) : Type 0 where
  pub now : IsMailNow book.specs book.cpus (word_at m) found
  pub sound : IsSoundBook now.key now.state now.ledger
  pub picture : found ≡ message_word (parts_of (mail_at now.ledger.rule.mails m))

-- and in that state what a seat says is so: what it knows of each message, what it has seen as a front of the history, and that its
-- events and steps are all that are its processor's
pub record IsMailFoundBeside (book : Shelf) (d : Desk) (m found : ℕ) : Type 0 where
  pub seen : IsMailFound book m found
  pub knows : (other : ℕ) → other < length book.specs → Knows (mail_at seen.now.ledger.rule.mails other) (Of (desk_cpu d)) (entry d other)
  pub past : IsPastOf seen.now.ledger.chronicle.history (desk_cpu d).0 (past_of d)
  pub events : events_by (desk_cpu d).0 seen.now.ledger.chronicle.history ≡ events_of d
  pub steps : steps_by (desk_cpu d).0 seen.now.ledger.chronicle.history ≡ steps_of d
