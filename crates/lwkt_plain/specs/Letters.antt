-- Messages, and the notes about them: what each step makes of one, and what a note is good for (msgport(9); rounds, the drop by the origin,
-- the abort request and notes are own).
use Rattle.std.specs.Prelude.{ℕ, ◌+◌, ◌==◌, ◌&&◌, not, Bool, true, false, if◌then◌else◌, Option, Some, None}
use Rattle.lwkt_base.specs.declared.names.CpuId.{CpuId}
use Rattle.lwkt_base.specs.declared.names.MsgId.{MsgId}
use Rattle.lwkt_base.specs.declared.names.ThreadId.{ThreadId}
use Rattle.lwkt_base.specs.declared.records.Call.{Call}
use Rattle.lwkt_base.specs.declared.records.Flags.{Flags}
use Rattle.lwkt_base.specs.declared.records.Rec.{Rec}
use Rattle.lwkt_base.specs.declared.asks.Item.{Item}
use Rattle.lwkt_base.specs.declared.asks.Item.TheVariants.{Request as RequestItem, Answered}
use Rattle.lwkt_base.specs.declared.message_words.MsgState.{MsgState}
use Rattle.lwkt_base.specs.declared.message_words.MsgState.TheVariants.{Rest, Out, With, Back}
use Rattle.lwkt_base.specs.declared.message_words.MsgWord.{MsgWord}
use Rattle.lwkt_base.specs.declared.opening_specs.MsgSpec.{MsgSpec}
use Rattle.lwkt_plain.specs.declared.letters.Hands.{Hands}
use Rattle.lwkt_plain.specs.declared.letters.Hands.TheVariants.{Nobody, Shown, Owes}
use Rattle.lwkt_plain.specs.declared.letters.Letter.{Letter}
use Rattle.lwkt_plain.specs.declared.letters.Note.{Note}
use Rattle.lwkt_plain.specs.declared.letters.NoteKind.{NoteKind}
use Rattle.lwkt_plain.specs.declared.letters.NoteKind.TheVariants.{Request, Answer}
use Rattle.lwkt_plain.specs.declared.letters.TheConstants.{ABORTED, NO_PORT, GONE}

-- whether a message is at rest, on its way, taken, or replied to
abbrev pub is_rest : MsgState → Bool
is_rest Rest = true
is_rest _ = false

abbrev pub is_out : MsgState → Bool
is_out Out = true
is_out _ = false

abbrev pub is_with : MsgState → Bool
is_with With = true
is_with _ = false

abbrev pub is_back : MsgState → Bool
is_back Back = true
is_back _ = false

-- the word and record of a message at rest
abbrev pub rest_word : CpuId → ℕ → MsgWord
rest_word origin round = record { round = round; state = Rest; origin = origin; target = record { 0 = 0 }; aborted = false; sync = false; dropable = false; abortable = false; priority = false }

abbrev pub no_rec : Rec
no_rec = record { arg = 0; result = 0; op = 0; error = 0 }

-- a message at rest: as it is opened, dropped by its origin, or taken back by it after the reply
abbrev pub at_rest : ThreadId → ℕ → Letter
at_rest origin round = record { origin = origin; word = rest_word origin.cpu round; rec = no_rec; hands = Nobody }

abbrev pub come_home : Letter → Letter
come_home l = at_rest l.origin l.word.round

-- a message is sent (lwkt_sendmsg, lwkt_domsg)
abbrev pub sent : CpuId → Call → Flags → Bool → Letter → Letter
sent target call flags sync l = record l {
  word = record { round = l.word.round + 1; state = Out; origin = l.origin.cpu; target = target; aborted = false; sync = sync; dropable = flags.dropable; abortable = flags.abortable; priority = flags.priority };
  rec = record { arg = call.arg; result = 0; op = call.op; error = 0 };
}

-- a message is taken by its target, into these hands
abbrev pub taken : Hands → Letter → Letter
taken hands l = record l { word = record (l.word) { state = With }; hands = hands }

-- a message is replied to (lwkt_replymsg)
abbrev pub replied : ℕ → ℕ → Letter → Letter
replied error outcome l = record l { word = record (l.word) { state = Back }; rec = record (l.rec) { error = error; result = outcome }; hands = Nobody }

-- a message is asked to be aborted (lwkt_abortmsg)
abbrev pub aborted : Letter → Letter
aborted l = record l { word = record (l.word) { aborted = true } }

-- whether a message is on its way to this processor in the round of a note; and whether it came back to it in that round. Else the note
-- is stale
abbrev pub can_be_taken : ℕ → Note → Letter → Bool
can_be_taken cpu note l = is_out l.word.state && l.word.target.0 == cpu && l.word.round == note.round

abbrev pub can_be_reaped : ℕ → Note → Letter → Bool
can_be_reaped cpu note l = is_back l.word.state && l.origin.cpu.0 == cpu && l.word.round == note.round

-- whether a message is of a thread
abbrev pub is_of : ℕ → ℕ → Letter → Bool
is_of c k l = l.origin.cpu.0 == c && l.origin.thread == k

-- whether a thread of a processor was shown a message, and hasn't replied yet
abbrev pub is_thread : ℕ → Hands → Bool
is_thread thread (Shown other) = other == thread
is_thread thread Nobody = false
is_thread thread (Owes error) = false

abbrev pub is_shown_to : ℕ → ℕ → Letter → Bool
is_shown_to cpu thread l = is_with l.word.state && l.word.target.0 == cpu && is_thread thread l.hands

-- the error of a reply that a processor owes, if it owes one
abbrev pub owed : Hands → Option ℕ
owed (Owes error) = Some error
owed Nobody = None
owed (Shown thread) = None

abbrev pub owed_by : ℕ → Letter → Option ℕ
owed_by cpu l = if is_with l.word.state && l.word.target.0 == cpu then owed l.hands else None

-- a thread has ended: what it was shown is owed a reply that it is gone
abbrev pub left_by : ℕ → ℕ → Letter → Letter
left_by cpu thread l = if is_shown_to cpu thread l then record l { hands = Owes GONE } else l

-- a note is handled, of a port whose thread is there or has ended: its message is taken, or taken back; a stale one does nothing. A
-- request that was aborted before its thread saw it is owed a reply that says so
abbrev pub hands_for : Option ℕ → Bool → Hands
hands_for None aborted = Owes NO_PORT
hands_for (Some thread) true = Owes ABORTED
hands_for (Some thread) false = Shown thread

abbrev pub handled_kind : NoteKind → ℕ → Option ℕ → Note → Letter → Letter
handled_kind Request cpu thread note l = if can_be_taken cpu note l then taken (hands_for thread l.word.aborted) l else l
handled_kind Answer cpu thread note l = if can_be_reaped cpu note l then come_home l else l

abbrev pub handled : ℕ → Option ℕ → Note → Letter → Letter
handled cpu thread note l = handled_kind note.kind cpu thread note l

-- the call of a message, and the reply to it, as items
abbrev pub request_of : MsgId → Letter → Item
request_of msg l = RequestItem msg (record { arg = l.rec.arg; op = l.rec.op })

abbrev pub answer_of : MsgId → Letter → Item
answer_of msg l = Answered msg l.rec.error l.rec.result

-- what a note shows the thread of its port, if it shows something: a request that isn't aborted, or the reply to its own message
abbrev pub item_kind : NoteKind → ℕ → Note → Letter → Option Item
item_kind Request cpu note l = if can_be_taken cpu note l && not l.word.aborted then Some (request_of note.msg l) else None
item_kind Answer cpu note l = if can_be_reaped cpu note l then Some (answer_of note.msg l) else None

abbrev pub item_of : ℕ → Note → Letter → Option Item
item_of cpu note l = item_kind note.kind cpu note l

-- the notes of a send and of a reply
abbrev pub request_note : MsgId → ℕ → Letter → Note
request_note msg port l = record { round = l.word.round; msg = msg; port = port; kind = Request; urgent = l.word.priority }

abbrev pub answer_note : MsgId → Letter → Note
answer_note msg l = record { round = l.word.round; msg = msg; port = l.origin.thread; kind = Answer; urgent = l.word.priority }

-- a message as it is opened
abbrev pub opened_letter : MsgSpec → Letter
opened_letter spec = at_rest spec.origin spec.round
