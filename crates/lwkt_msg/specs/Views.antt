use Rattle.std.specs.Prelude.{◌≡◌, ℕ, ◌+◌, ◌*◌, ◌≤◌, ◌==◌, ◌||◌, Bool, true, false, List, [], ◌∷◌, ◌++◌, slice_index_or, if◌then◌else◌}
use Rattle.lwkt_base.specs.declared.names.CpuId.{CpuId}
use Rattle.lwkt_base.specs.declared.names.MsgId.{MsgId}
use Rattle.lwkt_base.specs.declared.records.Call.{Call}
use Rattle.lwkt_base.specs.declared.records.Rec.{Rec}
use Rattle.lwkt_base.specs.declared.records.Flags.{Flags}
use Rattle.lwkt_base.specs.declared.opening_specs.MsgSpec.{MsgSpec}
use Rattle.lwkt_base.specs.declared.message_words.MsgWord.{MsgWord}
use Rattle.lwkt_base.specs.declared.message_words.MsgState.{MsgState}
use Rattle.lwkt_base.specs.declared.message_words.MsgState.TheVariants.{Rest, Out, With, Back}
use Rattle.lwkt_table.specs.declared.seats.Deed.{Deed}
use Rattle.lwkt_table.specs.declared.seats.Chapter.{Chapter}
use Rattle.lwkt_table.specs.declared.seats.SeatKind.{SeatKind}
use Rattle.lwkt_table.specs.declared.seats.SeatKind.TheVariants.{Clerk, Of, Spent}
use Rattle.lwkt_table.specs.Seating.{after_made, after_back, next_seat}
use Rattle.lwkt_table.specs.History.{Page}
use Rattle.lwkt_msg.specs.declared.views.MessageEntry.{MessageEntry}
use Rattle.lwkt_msg.specs.declared.views.Noted.{Noted}
use Rattle.lwkt_msg.specs.declared.views.Recalled.{Recalled}
use Rattle.lwkt_msg.specs.declared.views.Returned.{Returned}
use Rattle.lwkt_msg.specs.declared.views.View.{View}

-- the word and the record of a message (own: no two words, nor two records, lie on one line of a cache)
abbrev pub word_at : ℕ → ℕ
word_at m = 16 * m + 1

abbrev pub slot_at : ℕ → ℕ
slot_at m = 4 * m

-- no call, no leave to do anything, no message
abbrev pub no_call : Call
no_call = record { arg = 0; op = 0 }

abbrev pub no_flags : Flags
no_flags = record { dropable = false; abortable = false; priority = false }

abbrev pub no_spec : MsgSpec
no_spec = record { origin = record { cpu = record { 0 = 0 }; thread = 0 }; round = 0 }

-- the message of a number, as it was opened
abbrev pub spec_at : List MsgSpec → ℕ → MsgSpec
spec_at specs m = slice_index_or specs m no_spec

-- the call of a record, and its error and result
abbrev pub call_of : Rec → Call
call_of rec = record { arg = rec.arg; op = rec.op }

abbrev pub answer_of : Rec → Returned
answer_of rec = record { result = rec.result; error = rec.error }

-- what is known of a message at the opening
abbrev pub first_entry : MsgSpec → MessageEntry
first_entry spec = record { round = spec.round; call = no_call; target = record { 0 = 0 }; flags = no_flags; sync = false; had = false; away = false; back = false; asked = false; taken = false; got = no_call; answer = record { result = 0; error = 0 } }

-- the first entry of a message among several, or else this one
unfoldable pub entry_in : List Noted → ℕ → MessageEntry → MessageEntry
entry_in [] m other = other
entry_in (x ∷ xs) m other = if x.msg == m then x.entry else entry_in xs m other

-- what a seat knows of a message
unfoldable pub at : View → ℕ → MessageEntry
at v m = entry_in v.entries m (first_entry (spec_at v.specs m))

-- the processor of a seat: the clerk and a seat that was taken back have none
abbrev pub seat_cpu : SeatKind → CpuId
seat_cpu (Of cpu) = cpu
seat_cpu (Clerk made back) = record { 0 = 0 }
seat_cpu Spent = record { 0 = 0 }

abbrev pub who : View → CpuId
who v = seat_cpu v.kind

-- the view with another entry for a message after a deed: since the seat's last deed others have acted
abbrev pub noted : List Deed → View → ℕ → MessageEntry → Deed → View
noted between v m e d = record v { entries = record { msg = m; entry = e } ∷ v.entries; past = v.past ++ (between ++ d ∷ []) }

-- a view as the history sees it
abbrev pub page_of : View → Page
page_of v = record { kind = v.kind; past = v.past; chapters = v.chapters }

-- a message by its number
abbrev pub named : ℕ → MsgId
named m = record { 0 = m }

-- whether a state is that of a message which was replied to
abbrev pub shows_back : MsgState → Bool
shows_back Rest = false
shows_back Out = false
shows_back With = false
shows_back Back = true

-- whether a state is not that of a message at rest
abbrev pub shows_away : MsgState → Bool
shows_away Rest = false
shows_away Out = true
shows_away With = true
shows_away Back = true

-- whether a word shows a message that this processor has taken
abbrev pub shows_with : ℕ → MsgState → CpuId → Bool
shows_with cpu Rest target = false
shows_with cpu Out target = false
shows_with cpu With target = target.0 == cpu
shows_with cpu Back target = false

-- what the flags of a word allow
abbrev pub flags_of : MsgWord → Flags
flags_of w = record { dropable = w.dropable; abortable = w.abortable; priority = w.priority }

-- what is known of a message after each step on it: a load that found a word, the record handed out, a send, a take, a reply,
-- a reap, a drop, a request to abort
abbrev pub looked : MsgWord → MessageEntry → MessageEntry
looked w e = record e { back = e.back || shows_back w.state }

abbrev pub handed : MessageEntry → MessageEntry
handed e = record e { had = true }

abbrev pub sent : MsgWord → Call → MessageEntry → MessageEntry
sent w call e = record e { round = w.round; call = call; target = w.target; flags = flags_of w; sync = w.sync; away = true; back = false; asked = false }

abbrev pub took : Rec → MessageEntry → MessageEntry
took rec e = record e { taken = true; got = call_of rec }

abbrev pub replied : Rec → MessageEntry → MessageEntry
replied rec e = record e { taken = false; answer = answer_of rec }

abbrev pub answered : ℕ → ℕ → MessageEntry → MessageEntry
answered error outcome e = record e { taken = false; answer = record { result = outcome; error = error } }

abbrev pub reaped : MessageEntry → MessageEntry
reaped e = record e { away = false; back = false; asked = false }

abbrev pub dropped : MessageEntry → MessageEntry
dropped e = record e { away = false; back = false; asked = false }

abbrev pub requested : MessageEntry → MessageEntry
requested e = record e { asked = true }

-- the processors that a view stands for: a seat for its own, the clerk for those whose seat is not made yet
abbrev pub StandsFor : SeatKind → ℕ → Type 0
StandsFor (Clerk made back) cpu = made ≤ cpu
StandsFor (Of c) cpu = c.0 ≡ cpu
StandsFor Spent cpu = ⊥

-- what a word shows of a message is what its origin's view knows of it
pub record SeesOwn (e : MessageEntry) (w : MsgWord) : Type 0 where
  pub round_is : e.round ≡ w.round
  pub away_is : e.away ≡ shows_away w.state
  pub asked_is : e.asked ≡ w.aborted
  pub back_is : e.back ≡ true → shows_back w.state ≡ true
  pub target_is : shows_away w.state ≡ true → w.target ≡ e.target
  pub flags_is : shows_away w.state ≡ true → (w.sync ≡ e.sync) × (flags_of w ≡ e.flags)

-- what a word shows of a message is what a view knows of it: as origin its round, whether it is away, to whom and how it was sent, and as
-- target whether it was taken
pub record Sees (v : View) (m : ℕ) (w : MsgWord) : Type 0 where
  pub origin_is : w.origin ≡ (spec_at v.specs m).origin.cpu
  pub as_origin : StandsFor v.kind w.origin.0 → SeesOwn (at v m) w
  pub as_target : (cpu : ℕ) → StandsFor v.kind cpu → (at v m).taken ≡ shows_with cpu w.state w.target

-- the clerk's view after a seat was made, and the view of that seat
abbrev pub clerk_after : View → View
clerk_after v = record v { kind = after_made v.kind }

abbrev pub new_seat : View → View
new_seat v = record v { kind = next_seat v.kind; past = []; chapters = []; recalled = [] }

-- a view that was taken back, and one cut off whole
abbrev pub spent_view : View
spent_view = record { kind = Spent; cpus = 0; specs = []; entries = []; past = []; chapters = []; recalled = [] }

abbrev pub spent_left : View → View
spent_left v = spent_view

abbrev pub whole_right : View → View
whole_right v = v

-- what a seat knew that was taken back, and of a message
abbrev pub recalled_of : View → Recalled
recalled_of v = record { cpu = who v; specs = v.specs; entries = v.entries }

unfoldable pub recalled_at : Recalled → ℕ → MessageEntry
recalled_at r m = entry_in r.entries m (first_entry (spec_at r.specs m))

-- the clerk's view after a seat was taken back, whose past it keeps, and what it knew
abbrev pub chapter_of : View → Chapter
chapter_of v = record { cpu = who v; past = v.past }

abbrev pub joined : View → View → View
joined v other = record v { kind = after_back v.kind; chapters = chapter_of other ∷ v.chapters; recalled = recalled_of other ∷ v.recalled }
