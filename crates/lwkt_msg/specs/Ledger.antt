use Rattle.std.specs.Prelude.{◌≡◌, ◌≢◌, ◌⊎◌, ℕ, ◌+◌, ◌<◌, Bool, true, false, List, [], ◌∷◌, ◌++◌, length, map, slice_set}
use mathlib.Core.Option.{some}
use lib.ListN.{get_elem?}
use Rattle.atomic_table.specs.Table.{State, Act, Valid, stepped}
use Rattle.lwkt_base.specs.declared.opening_specs.MsgSpec.{MsgSpec}
use Rattle.lwkt_base.specs.declared.owners.Owner.TheVariants.{Rest}
use Rattle.lwkt_base.specs.declared.records.Rec.{Rec}
use Rattle.lwkt_base.specs.MessageWord.{message_word}
use Rattle.lwkt_core.specs.declared.events.Event.{Event}
use Rattle.lwkt_core.specs.declared.events.Event.TheVariants.{Load, Take, Share, Again, Mark, GiveOne, GiveClean, GiveWritten, Read, Write, ReadBlob, WriteBlob, Send, TakeMsg, DropMsg, Reply, Reap, Abort}
use Rattle.lwkt_core.specs.declared.events.Place.TheVariants.{AtMessage}
use Rattle.lwkt_core.specs.declared.messages.Message.{Message}
use Rattle.lwkt_table.specs.declared.seats.Operation.{Operation}
use Rattle.lwkt_table.specs.declared.seats.Operation.TheVariants.{Load as Loads, Store, Exchange, Add, Or}
use Rattle.lwkt_table.specs.declared.seats.WordStep.{WordStep}
use Rattle.lwkt_table.specs.declared.seats.Deed.{Deed}
use Rattle.lwkt_table.specs.declared.seats.SeatKind.TheVariants.{Clerk, Of}
use Rattle.lwkt_core.specs.Events.{cpu_of, place_of}
use Rattle.lwkt_core.specs.Headline as kind
use Rattle.lwkt_core.specs.Messages.{message_after}
use Rattle.lwkt_core.specs.Machine.{Happens}
use Rattle.lwkt_table.specs.History.{IsStepOver, AreOthers, Chronicle}
use Rattle.lwkt_msg.specs.declared.views.MessageEntry.{MessageEntry}
use Rattle.lwkt_msg.specs.declared.views.Key.{Key}
use Rattle.lwkt_msg.specs.declared.views.Recalled.{Recalled}
use Rattle.lwkt_msg.specs.declared.views.View.{View}
use Rattle.lwkt_msg.specs.Views.{word_at, call_of, who, noted, page_of, recalled_at}
use Rattle.lwkt_msg.specs.Book.{Mail, parts_of, Knows, mail_at, opened_mail, Rule}
use Rattle.lwkt_msg.specs.Steps.{machine_of}

-- the operation, which met this word, only looks: a load, or an exchange that met another word
abbrev pub OnlyLooks : Operation → ℕ → Type 0
OnlyLooks operation met = (operation ≡ Loads) ⊎ ((old new : ℕ) × ((operation ≡ Exchange old new) × (met ≢ old)))

-- the operation, which met this word, is that of the event: a store, the exchange that met its word, the addition of 1, and the
-- third bit (the layout of the word is own)
abbrev pub IsOperation : Event → Operation → ℕ → Type 0
IsOperation (Send cpu msg to round) operation met = (new : ℕ) × (operation ≡ Store new)
IsOperation (TakeMsg cpu msg round) operation met = operation ≡ Exchange met (met + 1)
IsOperation (DropMsg cpu msg) operation met = (new : ℕ) × (operation ≡ Exchange met new)
IsOperation (Reply cpu msg) operation met = operation ≡ Add 1
IsOperation (Reap cpu msg) operation met = (new : ℕ) × (operation ≡ Store new)
IsOperation (Abort cpu msg) operation met = operation ≡ Or 4
IsOperation (Load cpu tok) operation met = ⊥
IsOperation (Take cpu tok) operation met = ⊥
IsOperation (Share cpu tok) operation met = ⊥
IsOperation (Again cpu tok) operation met = ⊥
IsOperation (Mark cpu tok) operation met = ⊥
IsOperation (GiveOne cpu tok) operation met = ⊥
IsOperation (GiveClean cpu tok) operation met = ⊥
IsOperation (GiveWritten cpu tok section) operation met = ⊥
IsOperation (Read cpu tok cell value) operation met = ⊥
IsOperation (Write cpu tok cell value) operation met = ⊥
IsOperation (ReadBlob cpu tok blob) operation met = ⊥
IsOperation (WriteBlob cpu tok blob) operation met = ⊥

-- what an event does to the record of its message: a send puts one there, with no error and no result, a reply changes its error
-- and result alone, and every other event leaves it; a take, a reap and a drop find it there (record of msgport(9); own)
abbrev pub IsRecordOf : Event → Rec → Rec → List Rec → Type 0
IsRecordOf (Send cpu msg to round) old new records = (records ≡ new ∷ []) × ((new.error ≡ 0) × (new.result ≡ 0))
IsRecordOf (TakeMsg cpu msg round) old new records = (records ≡ old ∷ []) × (new ≡ old)
IsRecordOf (DropMsg cpu msg) old new records = (records ≡ old ∷ []) × (new ≡ old)
IsRecordOf (Reply cpu msg) old new records = (records ≡ new ∷ []) × (call_of new ≡ call_of old)
IsRecordOf (Reap cpu msg) old new records = (records ≡ old ∷ []) × (new ≡ old)
IsRecordOf (Abort cpu msg) old new records = (records ≡ []) × (new ≡ old)
IsRecordOf (Load cpu tok) old new records = ⊥
IsRecordOf (Take cpu tok) old new records = ⊥
IsRecordOf (Share cpu tok) old new records = ⊥
IsRecordOf (Again cpu tok) old new records = ⊥
IsRecordOf (Mark cpu tok) old new records = ⊥
IsRecordOf (GiveOne cpu tok) old new records = ⊥
IsRecordOf (GiveClean cpu tok) old new records = ⊥
IsRecordOf (GiveWritten cpu tok section) old new records = ⊥
IsRecordOf (Read cpu tok cell value) old new records = ⊥
IsRecordOf (Write cpu tok cell value) old new records = ⊥
IsRecordOf (ReadBlob cpu tok blob) old new records = ⊥
IsRecordOf (WriteBlob cpu tok blob) old new records = ⊥

-- only a send sets how a message was sent, and it says so by the word
abbrev pub IsSentAs : Event → Mail → Mail → Type 0
IsSentAs (Send cpu msg to round) mail after = Unit {0}
IsSentAs (TakeMsg cpu msg round) mail after = (after.sync ≡ mail.sync) × (after.flags ≡ mail.flags)
IsSentAs (DropMsg cpu msg) mail after = (after.sync ≡ mail.sync) × (after.flags ≡ mail.flags)
IsSentAs (Reply cpu msg) mail after = (after.sync ≡ mail.sync) × (after.flags ≡ mail.flags)
IsSentAs (Reap cpu msg) mail after = (after.sync ≡ mail.sync) × (after.flags ≡ mail.flags)
IsSentAs (Abort cpu msg) mail after = (after.sync ≡ mail.sync) × (after.flags ≡ mail.flags)
IsSentAs (Load cpu tok) mail after = ⊥
IsSentAs (Take cpu tok) mail after = ⊥
IsSentAs (Share cpu tok) mail after = ⊥
IsSentAs (Again cpu tok) mail after = ⊥
IsSentAs (Mark cpu tok) mail after = ⊥
IsSentAs (GiveOne cpu tok) mail after = ⊥
IsSentAs (GiveClean cpu tok) mail after = ⊥
IsSentAs (GiveWritten cpu tok section) mail after = ⊥
IsSentAs (Read cpu tok cell value) mail after = ⊥
IsSentAs (Write cpu tok cell value) mail after = ⊥
IsSentAs (ReadBlob cpu tok blob) mail after = ⊥
IsSentAs (WriteBlob cpu tok blob) mail after = ⊥

-- the record of a message at rest, which is still at home, is handed out to its origin
pub record IsHandedOut (mail : Mail) (d : Deed) (after : Mail) : Type 0 where
  pub home : mail.msg.owner ≡ Rest d.cpu
  pub at_home : mail.had ≡ false
  pub records : d.records ≡ mail.rec ∷ []
  pub leaves : after ≡ record mail { had = true }

-- a deed is a look at a message: it has no event, and leaves the message as it is, or hands its record out
pub record IsLook (mail : Mail) (d : Deed) (step : WordStep) (after : Mail) : Type 0 where
  pub events : d.events ≡ []
  pub operation : OnlyLooks step.operation (message_word (parts_of mail))
  pub leaves : ((d.records ≡ []) × (after ≡ mail)) ⊎ IsHandedOut mail d after

-- a deed is an event at a message, which leads from the one machine to the other, by the operation of the event
pub record IsEvent (cpus : ℕ) (mails : List Mail) (m : ℕ) (d : Deed) (step : WordStep) (after : Mail) : Type 0 where
  pub event : Event
  pub events : d.events ≡ event ∷ []
  pub own : cpu_of event ≡ d.cpu.0
  pub place : place_of event ≡ AtMessage m
  pub happens : Happens (machine_of cpus mails) event (machine_of cpus (slice_set mails m after))
  pub operation : IsOperation event step.operation (message_word (parts_of (mail_at mails m)))
  pub msg_is : after.msg ≡ message_after (mail_at mails m).msg event
  pub had_is : after.had ≡ (mail_at mails m).had
  pub sent_as : IsSentAs event (mail_at mails m) after
  pub record_is : IsRecordOf event (mail_at mails m).rec after.rec d.records

-- a deed is done between two states of the messages: it is one step on the word of one message, which it met and left as the
-- states before and after show, a look or an event, and every other message is as it was
pub record IsDone (cpus : ℕ) (mails : List Mail) (d : Deed) (others : List Mail) : Type 0 where
  pub step : WordStep
  pub steps : d.steps ≡ step ∷ []
  pub there : step.at < length mails
  pub processor : d.cpu.0 < cpus
  pub after : Mail
  pub leaves : others ≡ slice_set mails step.at after
  pub over : IsStepOver (message_word (parts_of (mail_at mails step.at))) (message_word (parts_of after)) step
  pub what : IsLook (mail_at mails step.at) d step after ⊎ IsEvent cpus mails step.at d step after

-- how often each thing was done with a message is how many events did it, by this count of the events of one kind
pub record AreCounted (msg : Message) (m : ℕ) (count : (Event → Bool) → ℕ) : Type 0 where
  pub sends : msg.sends ≡ count (kind.sends_message m)
  pub takes : msg.takes ≡ count (kind.takes_message m)
  pub drops : msg.drops ≡ count (kind.drops_message m)
  pub replies : msg.replies ≡ count (kind.replies_to_message m)
  pub reaps : msg.reaps ≡ count (kind.reaps_message m)

-- the messages as they are declared
abbrev pub first_mails : List MsgSpec → List Mail
first_mails specs = map opened_mail specs

-- what the seats knew that the clerk has taken back is still so of so many messages, and each of them has its chapter
pub record Recalls (views : List View) (mails : List Mail) (count : ℕ) : Type 0 where
  pub chapters : (j i : ℕ) (v : View) (r : Recalled) → get_elem? views j ≡ some v → get_elem? v.recalled i ≡ some r → (made back : ℕ) × ((past : List Deed) × ((v.kind ≡ Clerk made back) × (get_elem? v.chapters i ≡ some (record { cpu = r.cpu; past = past }))))
  pub knows : (j i : ℕ) (v : View) (r : Recalled) (m : ℕ) → get_elem? views j ≡ some v → get_elem? v.recalled i ≡ some r → m < count → Knows (mail_at mails m) (Of r.cpu) (recalled_at r m)

-- the book's rule between any two steps: words, records and views show safe messages, and there is one history of the deeds of all
-- seats that leads from the messages declared to these, of which each seat has seen the front up to its own last
-- deed; what seats knew that were taken back stands
pub record Ledger (key : Key) (s : State Rec View) : Type 0 where
  pub rule : Rule key s
  pub chronicle : Chronicle (IsDone key.cpus) (first_mails key.specs.items) (map page_of s.views) rule.mails
  pub recalls : Recalls s.views rule.mails (length key.specs.items)

-- after a deed the history has that deed more, which is done between the messages shown before and after it
pub record IsNext (key : Key) (s s' : State Rec View) (ledger : Ledger key s) (d : Deed) (after : Ledger key s') : Type 0 where
  pub done : IsDone key.cpus ledger.rule.mails d after.rule.mails
  pub grown : after.chronicle.history ≡ ledger.chronicle.history ++ d ∷ []

-- a table of which the rule holds too, with the same messages and the same history
abbrev pub IsSame : (key : Key) (s s' : State Rec View) → Ledger key s → Type 0
IsSame key s s' ledger = (after : Ledger key s') × (after.rule.mails ≡ ledger.rule.mails) × (after.chronicle.history ≡ ledger.chronicle.history)

-- a table of which the rule holds, with the messages that were declared and no deed
abbrev pub Opens : (key : Key) → State Rec View → Type 0
Opens key s = (ledger : Ledger key s) × (ledger.rule.mails ≡ first_mails key.specs.items) × (ledger.chronicle.history ≡ [])

-- a seat's step, by the table's own relation of a step: the word of the message becomes this number, and by this act the seat takes
-- its record from its slot or gives it back. Others have acted since the seat's last deed; the seat knows this of the message now,
-- the rule holds, and the history has this deed more
pub record StepIsDeed (key : Key) (s : State Rec View) (ledger : Ledger key s) (id : ℕ) (v : View) (hands : List (ℕ × Rec)) (m : ℕ) (e : MessageEntry) (d : Deed) (word : ℕ) (act : Act Rec) : Type 0 where
  pub valid : Valid s.homes hands act
  pub between : List Deed
  pub others : AreOthers (who v).0 between
  pub front : v.past ++ between ≡ ledger.chronicle.history
  pub after : Ledger key (stepped s (word_at m) word id hands (noted between v m e d) act)
  pub next : IsNext key s (stepped s (word_at m) word id hands (noted between v m e d) act) ledger d after
