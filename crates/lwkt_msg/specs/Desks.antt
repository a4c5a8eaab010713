use Rattle.std.specs.Prelude.{◌≡◌, ℕ, zero, suc, ◌+◌, ◌*◌, ◌<◌, ◌≤◌, ◌==◌, Bool, List, [], ◌∷◌, ◌++◌, length, map, All, count_by, slice_get, slice_index, slice_index_or, Some, if◌then◌else◌, Vec, vec_capacity}
use Rattle.std.specs.declared.alloc.Global.{Global}
use mathlib.Core.Option.{some}
use lib.ListN.{get_elem?}
use Rattle.atomic_table.specs.Seated.{TableId}
use Rattle.atomic_table.specs.declared.shared.Seat.{Seat}
use Rattle.lwkt_base.specs.declared.names.CpuId.{CpuId}
use Rattle.lwkt_base.specs.declared.opening_specs.MsgSpec.{MsgSpec}
use Rattle.lwkt_base.specs.declared.owners.MsgEnd.{MsgEnd}
use Rattle.lwkt_base.specs.declared.records.Rec.{Rec}
use Rattle.lwkt_core.specs.declared.messages.Message.{Message}
use Rattle.lwkt_table.specs.declared.seats.SeatKind.TheVariants.{Clerk, Of}
use Rattle.lwkt_core.specs.Messages.{IsSafeMessage}
use Rattle.lwkt_core.specs.Opening.{AreWithin}
use Rattle.lwkt_table.specs.Seating.{total}
use Rattle.lwkt_core.specs.Trace.{Run, end_of}
use Rattle.lwkt_core.specs.declared.events.Event.{Event}
use Rattle.lwkt_table.specs.declared.seats.WordStep.{WordStep}
use Rattle.lwkt_table.specs.declared.seats.Deed.{Deed}
use Rattle.lwkt_table.specs.declared.seats.Chapter.{Chapter}
use Rattle.lwkt_table.specs.History.{Passes, AreOthers, IsPastOf, events_in, events_by, steps_by}
use Rattle.lwkt_msg.specs.declared.views.MessageEntry.{MessageEntry}
use Rattle.lwkt_msg.specs.declared.views.Key.{Key}
use Rattle.lwkt_msg.specs.declared.views.View.{View}
use Rattle.lwkt_msg.specs.Views.{word_at, spec_at, first_entry, handed, at, who, chapter_of, recalled_of}
use Rattle.lwkt_base.specs.declared.owners.Owner.{Owner}
use Rattle.lwkt_base.specs.declared.owners.Owner.TheVariants.{Rest, Out, With, Back}
use Rattle.lwkt_base.specs.declared.message_words.MsgWord.{MsgWord}
use Rattle.lwkt_base.specs.declared.message_words.MsgState.{MsgState}
use Rattle.lwkt_base.specs.declared.message_words.MsgState.TheVariants as state
use Rattle.lwkt_base.specs.declared.limits.TheConstants.{CPU_LIMIT, MESSAGE_LIMIT}
use Rattle.lwkt_base.specs.MessageWord.{message_word, MessageFits}
use Rattle.lwkt_msg.specs.Hands.{AreHands}
use Rattle.lwkt_msg.specs.Book.{Mail, Knows, mail_at}
use Rattle.lwkt_table.specs.declared.seats.Operation.TheVariants.{Load}
use Rattle.lwkt_msg.specs.Deeds.{word_step}
use Rattle.lwkt_msg.specs.Steps.{rest_word, machine_of}
use Rattle.lwkt_msg.specs.Ledger.{IsDone, first_mails, AreCounted}
use Rattle.lwkt_msg.specs.Plays.{IsSat}

-- what callers see of a seat: the table that it sits at, and what it knows
pub record Desk : Type 0 where
  pub table : TableId
  pub view : View

abbrev pub desk : Seat Rec View → Desk
desk place = record { table = place.table_id; view = place.me.0 }

-- what callers see of a book: its table, and what it was opened with
pub record Shelf : Type 0 where
  pub table : TableId
  pub cpus : ℕ
  pub specs : List MsgSpec

-- the fields of a seat are those of a processor's seat at a table of so many processors and messages
pub record IsMsgSeat (cpu : CpuId) (cpus messages : ℕ) (place : Seat Rec View) : Type 0 where
  pub sat : IsSat cpu place
  pub cpus_is : cpus ≡ place.me.0.cpus
  pub messages_is : messages ≡ length place.me.0.specs

-- the fields of a book are those of a table of so many processors and messages, with the clerk who has made all seats
pub record IsMsgBook (cpus messages : ℕ) (table : TableId) (key : Key) (clerk : Seat Rec View) : Type 0 where
  pub words : table.words ≡ 16 * messages + 1
  pub slots : table.slots ≡ 4 * messages
  pub few : messages ≤ MESSAGE_LIMIT
  pub cpus_is : cpus ≡ key.cpus
  pub messages_is : messages ≡ length key.specs.items
  pub clerk_table : clerk.table_id ≡ table
  pub clerk_kind : clerk.me.0.kind ≡ Clerk cpus 0
  pub clerk_cpus : clerk.me.0.cpus ≡ cpus
  pub clerk_specs : clerk.me.0.specs ≡ key.specs.items
  pub no_chapters : clerk.me.0.chapters ≡ []

-- the processor of a seat
abbrev pub desk_cpu : Desk → CpuId
desk_cpu d = who d.view

-- what a seat knows of a message, how many messages and processors there are
abbrev pub entry : Desk → ℕ → MessageEntry
entry d m = at d.view m

abbrev pub messages_of : Desk → ℕ
messages_of d = length d.view.specs

abbrev pub cpus_of : Desk → ℕ
cpus_of d = d.view.cpus

-- the seat of a processor, at a book that was opened within the limits: the processor is one of the book's, and so is that of
-- each message's origin
pub record IsSeatOf (cpu : CpuId) (d : Desk) : Type 0 where
  pub kind : d.view.kind ≡ Of cpu
  pub there : cpu.0 < cpus_of d
  pub within : AreWithin (cpus_of d) [] d.view.specs
  pub origins : (m : ℕ) → m < messages_of d → (spec_at d.view.specs m).origin.cpu.0 < cpus_of d

-- the seat is still the one that it was: of the same processor, at the same table
pub record IsSameDesk (d d' : Desk) : Type 0 where
  pub table : d'.table ≡ d.table
  pub kind : d'.view.kind ≡ d.view.kind
  pub cpus : d'.view.cpus ≡ d.view.cpus
  pub specs : d'.view.specs ≡ d.view.specs

-- what a seat has seen of the book's history, the front of it up to the seat's own last deed; and of that the seat's steps on
-- words and its events, in order
abbrev pub past_of : Desk → List Deed
past_of d = d.view.past

abbrev pub steps_of : Desk → List WordStep
steps_of d = steps_by (desk_cpu d).0 (past_of d)

abbrev pub events_of : Desk → List Event
events_of d = events_by (desk_cpu d).0 (past_of d)

-- the steps of a processor's seat at the opening: of each of its own messages below this one, in order, a load that found it at rest
-- in its opening round
unfoldable pub opening_steps : ℕ → List MsgSpec → ℕ → List WordStep
opening_steps cpu specs zero = []
opening_steps cpu specs (suc m) =
    opening_steps cpu specs m ++ (if (spec_at specs m).origin.cpu.0 == cpu then word_step m Load (message_word (rest_word (record { 0 = cpu }) (spec_at specs m).round)) ∷ [] else [])

-- what the seat of a processor knows of a message at the opening: the origin has its record
abbrev pub opened_entry : ℕ → MsgSpec → MessageEntry
opened_entry cpu spec = if spec.origin.cpu.0 == cpu then handed (first_entry spec) else first_entry spec

-- the seat of a processor as it is opened
pub record IsOpened (cpu : ℕ) (book : Shelf) (d : Desk) : Type 0 where
  pub table : d.table ≡ book.table
  pub kind : d.view.kind ≡ Of (record { 0 = cpu })
  pub cpus : d.view.cpus ≡ book.cpus
  pub specs : d.view.specs ≡ book.specs
  pub entries : (m : ℕ) → m < length book.specs → at d.view m ≡ opened_entry cpu (spec_at book.specs m)
  pub no_events : events_of d ≡ []
  pub steps : steps_of d ≡ opening_steps cpu book.specs (length book.specs)

-- the seats of so many processors as they are opened
pub record AreSeats (made : ℕ) (book : Shelf) (seats : List Desk) : Type 0 where
  pub as_many : length seats ≡ made
  pub each : (cpu : ℕ) (d : Desk) → cpu < made → IsOpened cpu book (slice_index_or seats cpu d)

-- a book that was just opened, with one seat for each processor
pub record AreOpened (cpus : ℕ) (specs : List MsgSpec) (book : Shelf) (seats : List Desk) : Type 0 where
  pub cpus_is : book.cpus ≡ cpus
  pub specs_is : book.specs ≡ specs
  pub seats_are : AreSeats cpus book seats

-- how many events of one kind all seats together have done
abbrev pub events_like : (Event → Bool) → List Desk → ℕ
events_like which seats = total (λ d. count_by which (events_of d)) seats

-- how often each thing was done with a message is how many events of all seats did it
abbrev pub AreGathered : Message → ℕ → List Desk → Type 0
AreGathered msg m seats = AreCounted msg m (λ which. events_like which seats)

-- what is known of a message at the close: it is a safe message with this owner and round, which was opened so, and with which all
-- seats together did so much
pub record IsClosed (book : Shelf) (seats : List Desk) (m : ℕ) (msg : Message) (end : MsgEnd) : Type 0 where
  pub safe : IsSafeMessage book.cpus msg
  pub origin_is : msg.origin ≡ (spec_at book.specs m).origin
  pub opening_is : msg.opening ≡ (spec_at book.specs m).round
  pub end_is : end ≡ end_of msg
  pub gathered : AreGathered msg m seats

-- one history of all seats: its deeds are done one after another from the messages that were declared to these, its events are a run
-- of the model between the two, the events and steps of each seat are its processor's part, and no other processor has any
pub record IsHistory (book : Shelf) (seats : List Desk) (mails : List Mail) (history : List Deed) : Type 0 where
  pub passes : Passes (IsDone book.cpus) (first_mails book.specs) history mails
  pub run : Run (machine_of book.cpus (first_mails book.specs)) (events_in history) (machine_of book.cpus mails)
  pub parts : All (λ d. IsPastOf history (desk_cpu d).0 (past_of d)) seats
  pub events : All (λ d. events_of d ≡ events_by (desk_cpu d).0 history) seats
  pub steps : All (λ d. steps_of d ≡ steps_by (desk_cpu d).0 history) seats
  pub no_others : (cpu : ℕ) → book.cpus ≤ cpu → AreOthers cpu history

-- what a seat knew of so many messages is so of these: as origin the round, whether the message is away and whom it was sent to, how,
-- and with which call, and as target whether the seat had taken it, with which call, and what it replied
abbrev pub KnewSo : List Mail → ℕ → Desk → Type 0
KnewSo mails count d = (m : ℕ) → m < count → Knows (mail_at mails m) (Of (desk_cpu d)) (entry d m)

-- the closing values are those of the messages to which the history of all seats leads, and what each seat knew stands
pub record AreClosed (book : Shelf) (seats : List Desk) (ends : List MsgEnd) : Type 0 where
  pub as_many : length ends ≡ length book.specs
  pub mails : List Mail
  pub each : (m : ℕ) (end : MsgEnd) → m < length book.specs → IsClosed book seats m (mail_at mails m).msg (slice_index_or ends m end)
  pub history : List Deed
  pub is_history : IsHistory book seats mails history
  pub known : All (KnewSo mails (length book.specs)) seats

-- an empty list with room for an end of each message: all that the close of a book takes
abbrev pub IsBookRoom : Shelf → Vec MsgEnd Global → Type 0
IsBookRoom book room = (room.items ≡ []) × (length book.specs ≤ vec_capacity room)

-- a seat that is being opened, and has the records of its own messages up to this one
pub record IsHanding (cpu : CpuId) (upto : ℕ) (place : Seat Rec View) : Type 0 where
  pub kind : place.me.0.kind ≡ Of cpu
  pub words : place.table_id.words ≡ 16 * length place.me.0.specs + 1
  pub slots : place.table_id.slots ≡ 4 * length place.me.0.specs
  pub few : length place.me.0.specs ≤ MESSAGE_LIMIT
  pub cpus : place.me.0.cpus ≤ CPU_LIMIT
  pub there : cpu.0 < place.me.0.cpus
  pub within : AreWithin place.me.0.cpus [] place.me.0.specs
  pub hands : AreHands place.me.0 cpu.0 place.me.1
  pub done : (m : ℕ) → m < upto → at place.me.0 m ≡ opened_entry cpu.0 (spec_at place.me.0.specs m)
  pub todo : (m : ℕ) → upto ≤ m → at place.me.0 m ≡ first_entry (spec_at place.me.0.specs m)
  pub no_events : events_by cpu.0 place.me.0.past ≡ []
  pub steps : steps_by cpu.0 place.me.0.past ≡ opening_steps cpu.0 place.me.0.specs upto

-- the clerk, who has made so many seats
pub record IsClerk (made cpus : ℕ) (specs : List MsgSpec) (place : Seat Rec View) : Type 0 where
  pub kind : place.me.0.kind ≡ Clerk made 0
  pub cpus_is : place.me.0.cpus ≡ cpus
  pub specs_is : place.me.0.specs ≡ specs
  pub none_noted : place.me.0.entries ≡ []
  pub no_chapters : place.me.0.chapters ≡ []
  pub words : place.table_id.words ≡ 16 * length specs + 1
  pub slots : place.table_id.slots ≡ 4 * length specs
  pub few : length specs ≤ MESSAGE_LIMIT
  pub few_cpus : cpus ≤ CPU_LIMIT
  pub within : AreWithin cpus [] specs

-- the words of a table that is opened with these messages
pub record AreOpeningWords (upto : ℕ) (specs : List MsgSpec) (words : List ℕ) : Type 0 where
  pub wide : length words ≡ 16 * length specs + 1
  pub zero_word : slice_index words 0 ≡ 0
  pub each : (m : ℕ) → m < upto → slice_index words (word_at m) ≡ message_word (rest_word (spec_at specs m).origin.cpu (spec_at specs m).round)

-- whom a word shows the message with, and the closing values that it shows
abbrev pub shown_by : MsgState → CpuId → CpuId → Owner
shown_by state.Rest origin target = Rest origin
shown_by state.Out origin target = Out origin target
shown_by state.With origin target = With origin target
shown_by state.Back origin target = Back origin target

abbrev pub shown_owner : MsgWord → Owner
shown_owner w = shown_by w.state w.origin w.target

abbrev pub shown_end : MsgWord → MsgEnd
shown_end w = record { round = w.round; state = shown_owner w }

-- the closing values are those that the words show
pub record AreShown (upto : ℕ) (words : List ℕ) (ends : List MsgEnd) : Type 0 where
  pub as_many : length ends ≡ upto
  pub each : (m : ℕ) (end : MsgEnd) → slice_get ends m ≡ Some end → (word : ℕ) → get_elem? words (word_at m) ≡ some word → (w : MsgWord) → MessageFits w → message_word w ≡ word → end ≡ shown_end w

-- what these seats had seen, as the clerk keeps it
abbrev pub chapters_of : List Desk → List Chapter
chapters_of seats = map (λ d. chapter_of d.view) seats

-- what a seat knew is kept by the clerk
abbrev pub IsRecalled : View → Desk → Type 0
IsRecalled v d = (i : ℕ) × (get_elem? v.recalled i ≡ some (recalled_of d.view))

-- the clerk's view while seats are taken back, of which these are left
pub record IsTaking (cpus : ℕ) (v : View) (seats left : List Desk) (w : View) : Type 0 where
  pub behind : List Desk
  pub in_order : seats ≡ left ++ behind
  pub chapters : w.chapters ≡ chapters_of behind
  pub recalled : All (IsRecalled w) behind
  pub back : ℕ
  pub kind : w.kind ≡ Clerk cpus back
  pub as_many : back + length left ≡ length seats
  pub cpus_is : w.cpus ≡ v.cpus
  pub specs_is : w.specs ≡ v.specs

-- the clerk's view after these seats were taken back
pub record HasTakenBack (cpus : ℕ) (v : View) (seats : List Desk) (w : View) : Type 0 where
  pub chapters : w.chapters ≡ chapters_of seats
  pub recalled : All (IsRecalled w) seats
  pub kind : w.kind ≡ Clerk cpus (length seats)
  pub cpus_is : w.cpus ≡ v.cpus
  pub specs_is : w.specs ≡ v.specs
