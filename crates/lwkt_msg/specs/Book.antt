use Rattle.std.specs.Prelude.{◌≡◌, ℕ, ◌+◌, ◌*◌, ◌<◌, ◌==◌, ◌&&◌, Bool, true, false, List, [], length, map, slice_index, slice_index_or}
use mathlib.Core.Option.{Option, some, none}
use lib.ListN.{get_elem?}
use Rattle.atomic_table.specs.Table.{State}
use Rattle.lwkt_base.specs.declared.names.CpuId.{CpuId}
use Rattle.lwkt_base.specs.declared.owners.Owner.{Owner}
use Rattle.lwkt_base.specs.declared.owners.Owner.TheVariants.{Rest, Out, With, Back}
use Rattle.lwkt_base.specs.declared.records.Rec.{Rec}
use Rattle.lwkt_base.specs.declared.records.Flags.{Flags}
use Rattle.lwkt_base.specs.declared.opening_specs.MsgSpec.{MsgSpec}
use Rattle.lwkt_base.specs.declared.message_words.MsgWord.{MsgWord}
use Rattle.lwkt_base.specs.declared.message_words.MsgState.{MsgState}
use Rattle.lwkt_base.specs.declared.message_words.MsgState.TheVariants as state
use Rattle.lwkt_base.specs.MessageWord.{message_word}
use Rattle.lwkt_core.specs.declared.messages.Message.{Message}
use Rattle.lwkt_table.specs.declared.seats.SeatKind.{SeatKind}
use Rattle.lwkt_table.specs.declared.seats.SeatKind.TheVariants.{Clerk, Spent}
use Rattle.lwkt_core.specs.Messages.{IsSafeMessage, origin_of, is_away, in_out}
use Rattle.lwkt_core.specs.Opening.{AreWithin, opened_message}
use Rattle.lwkt_table.specs.Seating.{AreSeated}
use Rattle.lwkt_msg.specs.declared.views.MessageEntry.{MessageEntry}
use Rattle.lwkt_msg.specs.declared.views.Key.{Key}
use Rattle.lwkt_msg.specs.declared.views.View.{View}
use Rattle.lwkt_msg.specs.Views.{word_at, slot_at, no_flags, spec_at, call_of, answer_of, at, StandsFor}

-- the state that a word shows of an owner
abbrev pub state_of : Owner → MsgState
state_of (Rest origin) = state.Rest
state_of (Out origin target) = state.Out
state_of (With origin target) = state.With
state_of (Back origin target) = state.Back

-- the target that a word shows: 0 at rest
abbrev pub shown_target : Owner → CpuId
shown_target (Rest origin) = record { 0 = 0 }
shown_target (Out origin target) = target
shown_target (With origin target) = target
shown_target (Back origin target) = target

-- whether a message was replied to, and whether by this processor; whether this processor has taken it
abbrev pub is_back : Owner → Bool
is_back (Rest origin) = false
is_back (Out origin target) = false
is_back (With origin target) = false
is_back (Back origin target) = true

abbrev pub is_answered : ℕ → Owner → Bool
is_answered cpu (Rest origin) = false
is_answered cpu (Out origin target) = false
is_answered cpu (With origin target) = false
is_answered cpu (Back origin target) = target.0 == cpu

abbrev pub is_taken : ℕ → Owner → Bool
is_taken cpu (Rest origin) = false
is_taken cpu (Out origin target) = false
is_taken cpu (With origin target) = target.0 == cpu
is_taken cpu (Back origin target) = false

-- a message of the model, and what only the book has of it: whether its record was handed out at the opening, how its origin
-- sent it last, and its record
pub record Mail : Type 0 where
  pub msg : Message
  pub had : Bool
  pub sync : Bool
  pub flags : Flags
  pub rec : Rec

-- the parts of the word that shows a message; at rest it shows no flags (flags of msgport(9); the layout is own)
abbrev pub parts_of : Mail → MsgWord
parts_of mail = record { round = mail.msg.round; state = state_of mail.msg.owner; origin = origin_of mail.msg.owner; target = shown_target mail.msg.owner; aborted = mail.msg.asked; sync = is_away mail.msg.owner && mail.sync; dropable = is_away mail.msg.owner && mail.flags.dropable; abortable = is_away mail.msg.owner && mail.flags.abortable; priority = is_away mail.msg.owner && mail.flags.priority }

-- what lies in the slot of a message: its record while it is on its way to its target or back, or not handed out yet
abbrev pub in_slot : Owner → Bool → Rec → Option Rec
in_slot (Rest origin) true rec = none
in_slot (Rest origin) false rec = some rec
in_slot (Out origin target) had rec = some rec
in_slot (With origin target) had rec = none
in_slot (Back origin target) had rec = some rec

-- what the origin's view knows of a message is so
pub record KnowsOwn (mail : Mail) (e : MessageEntry) : Type 0 where
  pub round_is : e.round ≡ mail.msg.round
  pub away_is : e.away ≡ is_away mail.msg.owner
  pub asked_is : e.asked ≡ mail.msg.asked
  pub had_is : e.had ≡ mail.had
  pub sync_is : e.sync ≡ mail.sync
  pub flags_is : e.flags ≡ mail.flags
  pub call_is : e.call ≡ call_of mail.rec
  pub target_is : is_away mail.msg.owner ≡ true → e.target ≡ shown_target mail.msg.owner
  pub back_is : e.back ≡ true → is_back mail.msg.owner ≡ true

-- what the view of a processor knows of a message as its target is so
pub record KnowsTaken (cpu : ℕ) (mail : Mail) (e : MessageEntry) : Type 0 where
  pub taken_is : e.taken ≡ is_taken cpu mail.msg.owner
  pub got_is : is_taken cpu mail.msg.owner ≡ true → e.got ≡ call_of mail.rec
  pub answer_is : is_answered cpu mail.msg.owner ≡ true → e.answer ≡ answer_of mail.rec

-- what a view knows of a message is so
pub record Knows (mail : Mail) (kind : SeatKind) (e : MessageEntry) : Type 0 where
  pub as_origin : StandsFor kind mail.msg.origin.cpu.0 → KnowsOwn mail e
  pub as_target : (cpu : ℕ) → StandsFor kind cpu → KnowsTaken cpu mail e

-- one message of the book: it is safe, its word shows it, its record lies where its owner is, and what each view knows of it is so
-- (msgport(9); rounds, the drop by the origin and the abort request are own)
pub record IsKept (cpus : ℕ) (spec : MsgSpec) (mail : Mail) (word : ℕ) (home : Option (Option Rec)) (m : ℕ) (views : List View) : Type 0 where
  pub safe : IsSafeMessage cpus mail.msg
  pub origin_is : mail.msg.origin ≡ spec.origin
  pub opening_is : mail.msg.opening ≡ spec.round
  pub is_word : word ≡ message_word (parts_of mail)
  pub slot : home ≡ some (in_slot mail.msg.owner mail.had mail.rec)
  pub unanswered : in_out mail.msg.owner ≡ 1 → (mail.rec.error ≡ 0) × (mail.rec.result ≡ 0)
  pub each_view : (j : ℕ) (v : View) → get_elem? views j ≡ some v → Knows mail v.kind (at v m)

-- no message
abbrev pub no_mail : Mail
no_mail = record { msg = record { origin = record { cpu = record { 0 = 0 }; thread = 0 }; opening = 0; round = 0; owner = Rest (record { 0 = 0 }); asked = false; sends = 0; takes = 0; drops = 0; replies = 0; reaps = 0 }; had = false; sync = false; flags = no_flags; rec = record { arg = 0; result = 0; op = 0; error = 0 } }

abbrev pub mail_at : List Mail → ℕ → Mail
mail_at mails m = slice_index_or mails m no_mail

-- a table is that of a book with these messages
pub record IsBook (key : Key) (mails : List Mail) (s : State Rec View) : Type 0 where
  pub within : AreWithin key.cpus [] key.specs.items
  pub as_many : length mails ≡ length key.specs.items
  pub wide : length s.words ≡ 16 * length key.specs.items + 1
  pub deep : length s.homes ≡ 4 * length key.specs.items
  pub zero_word : slice_index s.words 0 ≡ 0
  pub seated : AreSeated key.cpus (map (λ (v : View). v.kind) s.views)
  pub plans : (j : ℕ) (v : View) → get_elem? s.views j ≡ some v → (v.kind ≡ Spent → ⊥) → (v.cpus ≡ key.cpus) × (v.specs ≡ key.specs.items)
  pub each : (m : ℕ) → m < length key.specs.items → IsKept key.cpus (spec_at key.specs.items m) (mail_at mails m) (slice_index s.words (word_at m)) (get_elem? s.homes (slot_at m)) m s.views

-- the rule of the book: each message has one owner
pub record Rule (key : Key) (s : State Rec View) : Type 0 where
  pub mails : List Mail
  pub book : IsBook key mails s

-- what the first seat, the clerk's, knows
abbrev pub first_view : Key → View
first_view key = record { kind = Clerk 0 0; cpus = key.cpus; specs = key.specs.items; entries = []; past = []; chapters = []; recalled = [] }

-- an empty record, and a message of the book at the opening
abbrev pub no_rec : Rec
no_rec = record { arg = 0; result = 0; op = 0; error = 0 }

abbrev pub opened_mail : MsgSpec → Mail
opened_mail spec = record { msg = opened_message spec; had = false; sync = false; flags = no_flags; rec = no_rec }
