-- What a processor does about mail at the beginning of its turn (msgport(9); notes, lanes and limits own): the notes in its hands move on,
-- the replies that it owes go out, notes come in over the lanes, the ports of threads that have ended are cleared, and each thread that
-- waits for its port looks at it.
use Rattle.std.specs.Prelude.{ℕ, zero, suc, ◌+◌, ◌-◌, ◌==◌, ◌&&◌, nat_lt, min, is_some, Bool, true, false, if◌then◌else◌, List, [], ◌∷◌, ◌++◌, length, map, take, drop, fold, Option, Some, None, option_and_then, slice_get}
use Rattle.std.specs.List.{range_with_len}
use Rattle.std.specs.Option.{option_map_or}
use Rattle.lwkt_base.specs.declared.names.MsgId.{MsgId}
use Rattle.lwkt_base.specs.declared.asks.Item.{Item}
use Rattle.lwkt_base.specs.declared.asks.Answer.TheVariants.{Got}
use Rattle.lwkt_core.specs.Machine.{changed}
use Rattle.lwkt_plain.specs.declared.letters.Lane.{Lane}
use Rattle.lwkt_plain.specs.declared.letters.Letter.{Letter}
use Rattle.lwkt_plain.specs.declared.letters.Note.{Note}
use Rattle.lwkt_plain.specs.declared.letters.NoteKind.{NoteKind}
use Rattle.lwkt_plain.specs.declared.letters.NoteKind.TheVariants.{Request, Answer}
use Rattle.lwkt_plain.specs.declared.letters.Port.{Port}
use Rattle.lwkt_plain.specs.declared.letters.TheConstants.{PORT_QUEUE, PORTS}
use Rattle.lwkt_plain.specs.declared.states.Phase.{Phase}
use Rattle.lwkt_plain.specs.declared.states.Phase.TheVariants.{Live, AwaitsItem, AwaitsReply, Exited, Faulted}
use Rattle.lwkt_plain.specs.declared.states.Plain.{Plain}
use Rattle.lwkt_plain.specs.declared.states.Processor.{Processor}
use Rattle.lwkt_plain.specs.declared.states.Thread.{Thread}
use Rattle.lwkt_plain.specs.declared.states.TheConstants.{TURN_NOTES, CLEARED_AT_ONCE}
use Rattle.lwkt_plain.specs.Letters.{replied, can_be_reaped, come_home, answer_of, answer_note, item_of, handled, owed_by}
use Rattle.lwkt_plain.specs.Places.{cpu_at, thread_at, port_at, lane_at, with_cpu, with_thread, with_port, with_lane, with_letter, moved, has_room, pushed}

-- the numbers below this one
unfoldable pub below : ℕ → List ℕ
below n = range_with_len 0 n

-- the notes in a processor's hands move on
unfoldable pub moves_on : ℕ → Plain → Plain
moves_on c p = fold (λ now to. with_lane moved c to now) p (below (length p.cpus))

-- a note is sent over the lane from a processor to another, which has room
abbrev pub posts : ℕ → ℕ → Note → Plain → Plain
posts from to note p = with_lane (λ lane. pushed note (moved lane)) from to p

-- a processor replies to a message of a number that it has taken, over a lane that has room (lwkt_replymsg)
abbrev pub replies : ℕ → MsgId → ℕ → ℕ → Letter → Plain → Plain
replies c msg error outcome l p = posts c l.origin.cpu.0 (answer_note msg l) (with_letter (replied error outcome) msg.0 p)

-- the reply that is owed to a message of a number goes out, if one is and the lane has room
abbrev pub pays_at : ℕ → Plain → MsgId → Letter → Plain
pays_at c p msg l = option_map_or (λ error. if has_room (lane_at p c l.origin.cpu.0) then replies c msg error 0 l p else p) (owed_by c l) p

abbrev pub pays : ℕ → Plain → ℕ → Plain
pays c p m = option_map_or (pays_at c p (record { 0 = m })) (slice_get p.letters m) p

unfoldable pub pays_all : ℕ → Plain → Plain
pays_all c p = fold (pays c) p (below (length p.letters))

-- a thread is ready, with an item
abbrev pub gets : Item → Thread → Thread
gets item t = record t { last = Got item; phase = Live }

-- a thread that waits for this message is ready, with the reply
abbrev pub hears_from : Phase → MsgId → Letter → Thread → Thread
hears_from (AwaitsReply own) msg l t = if own.0 == msg.0 then gets (answer_of msg l) t else t
hears_from _ msg l t = t

-- a synchronous answer: the message comes home, and its thread is ready
abbrev pub hears : ℕ → Note → Letter → Plain → Plain
hears c note l p =
    if can_be_reaped c note l then with_thread (λ t. hears_from t.phase note.msg l t) c note.port (with_letter come_home note.msg.0 p) else p

-- whether a note is the answer to a synchronous send
abbrev pub is_sync_answer : NoteKind → Letter → Bool
is_sync_answer Request l = false
is_sync_answer Answer l = l.word.sync

-- whether the queue of a note's class at its port has room, and the note behind the others there
abbrev pub has_space : Note → Port → Bool
has_space note port = if note.urgent then nat_lt (length port.urgent) PORT_QUEUE else nat_lt (length port.ordinary) PORT_QUEUE

abbrev pub queued : Note → Port → Port
queued note port = if note.urgent then record port { urgent = port.urgent ++ note ∷ [] } else record port { ordinary = port.ordinary ++ note ∷ [] }

-- a note stands at its port; none if that queue is full
abbrev pub queues : ℕ → Note → Plain → Option Plain
queues c note p = if has_space note (port_at p c note.port) then Some (with_port (queued note) c note.port p) else None

-- a note that came over a lane: a synchronous answer is heard, any other note queued. None if its queue is full
abbrev pub comes_in : ℕ → Note → Plain → Option Plain
comes_in c note p = option_map_or (λ l. if is_sync_answer note.kind l then Some (hears c note l p) else queues c note p) (slice_get p.letters note.msg.0) (Some p)

-- a state as notes come in, and how many may still be received
pub record Intake : Type 0 where
  pub left : ℕ
  pub plain : Plain

abbrev pub intake : ℕ → Plain → Intake
intake left plain = record { left = left; plain = plain }

-- the lane from a sender without its first note, and with a note that is kept there, or none
abbrev pub without_first : ℕ → ℕ → Plain → Plain
without_first sender c p = with_lane (λ (lane : Lane). record lane { queue = drop 1 lane.queue }) sender c p

abbrev pub keeps : Option Note → ℕ → ℕ → Plain → Plain
keeps note sender c p = with_lane (λ (lane : Lane). record lane { kept = note }) sender c p

-- the queue of the lane from a sender is received, note after note, up to the limit, and up to a note whose port's queue is full: that one
-- is kept
unfoldable pub receives : ℕ → ℕ → ℕ → Plain → Intake
receives c sender zero p = intake 0 p
receives c sender (suc left) p =
    option_map_or
    (λ note. option_map_or (λ next. receives c sender left next) (comes_in c note (without_first sender c p)) (intake left (keeps (Some note) sender c (without_first sender c p))))
    (slice_get (lane_at p sender c).queue 0) (intake (suc left) p)

-- the same after the note that is kept, if there is one, which has to come in first
abbrev pub receives_from : ℕ → Intake → ℕ → Intake
receives_from c i sender =
    option_map_or (λ note. option_map_or (λ next. receives c sender i.left (keeps None sender c next)) (comes_in c note i.plain) i)
    (lane_at i.plain sender c).kept (receives c sender i.left i.plain)

-- the lanes to a processor, by rising sender
unfoldable pub receives_all : ℕ → Plain → Plain
receives_all c p = (fold (receives_from c) (intake TURN_NOTES p) (below (length p.cpus))).plain

-- whether a thread has ended; and whether the port of a number is closed: its thread has, or isn't there
abbrev pub has_ended : Phase → Bool
has_ended Live = false
has_ended AwaitsItem = false
has_ended (AwaitsReply msg) = false
has_ended Exited = true
has_ended (Faulted fault) = true

abbrev pub is_closed : ℕ → ℕ → Plain → Bool
is_closed c k p = option_map_or (λ t. has_ended t.phase) (thread_at p c k) true

-- the note of a port that is served first, an urgent one if there is one; and the port without it
abbrev pub first_note : Port → Option Note
first_note port = option_map_or (λ note. Some note) (slice_get port.urgent 0) (slice_get port.ordinary 0)

abbrev pub without_note : Port → Port
without_note port = if is_some (slice_get port.urgent 0) then record port { urgent = drop 1 port.urgent } else record port { ordinary = drop 1 port.ordinary }

-- a note of a port is taken off, and handled: for a thread, or for nobody
abbrev pub handles : ℕ → ℕ → Option ℕ → Note → Plain → Plain
handles c k thread note p = with_letter (handled c thread note) note.msg.0 (with_port without_note c k p)

-- the first notes of a port are handled for nobody, at most so many
unfoldable pub clears_port : ℕ → ℕ → ℕ → Plain → Intake
clears_port c k zero p = intake 0 p
clears_port c k (suc left) p = option_map_or (λ note. clears_port c k left (handles c k None note p)) (first_note (port_at p c k)) (intake (suc left) p)

-- those of a closed port
abbrev pub clears : ℕ → Intake → ℕ → Intake
clears c i k = if is_closed c k i.plain then clears_port c k i.left i.plain else i

-- the closed ports, by rising number
unfoldable pub clears_all : ℕ → Plain → Plain
clears_all c p = (fold (clears c) (intake CLEARED_AT_ONCE p) (below PORTS)).plain

-- a state after a thread looked at its port, and the item, if there was one
pub record Looked : Type 0 where
  pub plain : Plain
  pub item : Option Item

abbrev pub looked : Plain → Option Item → Looked
looked plain item = record { plain = plain; item = item }

-- what a note shows a thread
abbrev pub shown_by : ℕ → Note → Plain → Option Item
shown_by c note p = option_and_then (item_of c note) (slice_get p.letters note.msg.0)

-- the first notes of a thread's port are handled up to the first that shows something, at most so many
unfoldable pub looks_within : ℕ → ℕ → ℕ → Plain → Looked
looks_within zero c k p = looked p None
looks_within (suc n) c k p =
    option_map_or (λ note. option_map_or (λ item. looked (handles c k (Some k) note p) (Some item)) (shown_by c note p) (looks_within n c k (handles c k (Some k) note p)))
    (first_note (port_at p c k)) (looked p None)

-- how many notes a port has
abbrev pub notes_in : Port → ℕ
notes_in port = length port.urgent + length port.ordinary

-- a thread looks at its port (lwkt_getport)
abbrev pub looks : ℕ → ℕ → Plain → Looked
looks c k p = looks_within (notes_in (port_at p c k)) c k p

-- a thread that waits for its port looks at it, and is ready with an item
abbrev pub wakes : ℕ → ℕ → Plain → Phase → Plain
wakes c k p AwaitsItem =
    let now = looks c k p in
    option_map_or (λ item. with_thread (gets item) c k now.plain) now.item now.plain
wakes c k p _ = p

abbrev pub wakes_at : ℕ → Plain → ℕ → Plain
wakes_at c p k = option_map_or (λ t. wakes c k p t.phase) (thread_at p c k) p

-- the threads of a processor, by rising number
unfoldable pub wakes_all : ℕ → Plain → Plain
wakes_all c p = fold (wakes_at c) p (below (length (cpu_at p c).threads))

-- all of it
abbrev pub takes_mail : ℕ → Plain → Plain
takes_mail c p = wakes_all c (clears_all c (receives_all c (pays_all c (moves_on c p))))
