-- The asks of a running thread about messages: the state after each, and what comes next for it (msgport(9); refusals own).
use Rattle.std.specs.Prelude.{ℕ, ◌==◌, ◌&&◌, nat_lt, not, Bool, true, false, if◌then◌else◌, List, length, Option, Some, None, is_some, option_and_then, slice_get}
use Rattle.std.specs.Option.{option_map_or}
use Rattle.lwkt_base.specs.declared.names.MsgId.{MsgId}
use Rattle.lwkt_base.specs.declared.names.ThreadId.{ThreadId}
use Rattle.lwkt_base.specs.declared.faults.Fault.{Fault}
use Rattle.lwkt_base.specs.declared.faults.Fault.TheVariants.{LaneFull, NotOwner, NotOut, NotAbortable, NotDropable, SelfDo, NoPort, NotTaken, RoundsOut}
use Rattle.lwkt_base.specs.declared.asks.Item.{Item}
use Rattle.lwkt_base.specs.declared.asks.Answer.{Answer}
use Rattle.lwkt_base.specs.declared.asks.Answer.TheVariants.{Done, Value, Dropped, Got, NoMsg, Refused}
use Rattle.lwkt_base.specs.declared.records.Call.{Call}
use Rattle.lwkt_base.specs.declared.records.Flags.{Flags}
use Rattle.lwkt_base.specs.declared.limits.TheConstants.{LAST_ROUND}
use Rattle.lwkt_core.specs.Machine.{changed}
use Rattle.lwkt_plain.specs.declared.letters.Letter.{Letter}
use Rattle.lwkt_plain.specs.declared.letters.TheConstants.{PORTS}
use Rattle.lwkt_plain.specs.declared.mailing.Sending.{Sending}
use Rattle.lwkt_plain.specs.declared.nexts.Next.{Next}
use Rattle.lwkt_plain.specs.declared.nexts.Next.TheVariants.{Runs, Leaves}
use Rattle.lwkt_plain.specs.declared.states.Phase.TheVariants.{AwaitsItem, AwaitsReply}
use Rattle.lwkt_plain.specs.declared.states.Plain.{Plain}
use Rattle.lwkt_plain.specs.Letters.{is_of, is_rest, is_out, is_with, sent, aborted, come_home, is_shown_to, request_note}
use Rattle.lwkt_plain.specs.Places.{lane_at, with_lane, with_letter, moved, has_room}
use Rattle.lwkt_plain.specs.Intakes.{posts, replies, looks}

-- a state after an ask, and what comes next
pub record Mailed : Type 0 where
  pub plain : Plain
  pub next : Next

abbrev pub mailed : Plain → Next → Mailed
mailed plain next = record { plain = plain; next = next }

abbrev pub refused : Plain → Fault → Mailed
refused p fault = mailed p (Runs (Refused fault))

-- a send without leave to drop or to abort, and without priority
abbrev pub plain_flags : Flags
plain_flags = record { dropable = false; abortable = false; priority = false }

-- whether a message is a thread's own, and at rest
abbrev pub may_send : ℕ → ℕ → Plain → MsgId → Bool
may_send c k p msg = option_map_or (λ l. is_of c k l && is_rest l.word.state) (slice_get p.letters msg.0) false

-- why a send is refused before its lane is looked at: no such port, a synchronous send to itself, a message that isn't the thread's own or
-- is away
abbrev pub send_refusal : ℕ → ℕ → Plain → Sending → Option Fault
send_refusal c k p s =
    if not (nat_lt s.to.cpu.0 (length p.cpus) && nat_lt s.to.thread PORTS) then Some NoPort
    else (if s.sync && (s.to.cpu.0 == c && s.to.thread == k) then Some SelfDo
    else (if may_send c k p s.msg then None
    else Some NotOwner))

-- a message that goes out over a lane that has room
abbrev pub goes_out : ℕ → Plain → Sending → Letter → Plain
goes_out c p s l =
    let away = sent s.to.cpu s.call s.flags s.sync l in
    posts c s.to.cpu.0 (request_note s.msg s.to.thread away) (with_letter (λ old. away) s.msg.0 p)

-- the same, refused for want of room, and at the last round; the note in hand moves on before
abbrev pub sends_over : ℕ → Plain → Sending → Next → Letter → Mailed
sends_over c p s next l =
    if not (has_room (lane_at p c s.to.cpu.0)) then refused p LaneFull
    else (if l.word.round == LAST_ROUND then refused (with_lane moved c s.to.cpu.0 p) RoundsOut
    else mailed (goes_out c p s l) next)

-- a send, and what comes next if it isn't refused
abbrev pub sends : ℕ → ℕ → Plain → Sending → Next → Mailed
sends c k p s next =
    option_map_or (refused p) (send_refusal c k p s)
    (option_map_or (sends_over c p s next) (slice_get p.letters s.msg.0) (refused p NotOwner))

-- lwkt_sendmsg
abbrev pub send : ℕ → ℕ → Plain → MsgId → ThreadId → Call → Flags → Mailed
send c k p msg to call flags = sends c k p (record { msg = msg; to = to; call = call; flags = flags; sync = false }) (Runs Done)

-- lwkt_domsg: the thread gives up its list, of so many references, and waits for the reply
abbrev pub do_msg : ℕ → ℕ → Plain → ℕ → MsgId → ThreadId → Call → Mailed
do_msg c k p count msg to call = sends c k p (record { msg = msg; to = to; call = call; flags = plain_flags; sync = true }) (Leaves count (AwaitsReply msg))

-- lwkt_replymsg
abbrev pub replies_over : ℕ → Plain → MsgId → ℕ → ℕ → Letter → Mailed
replies_over c p msg error outcome l =
    if has_room (lane_at p c l.origin.cpu.0) then mailed (replies c msg error outcome l p) (Runs Done) else refused p LaneFull

-- the message of a number that a thread was shown, and hasn't replied to
abbrev pub shown_letter : ℕ → ℕ → Plain → MsgId → Option Letter
shown_letter c k p msg = option_and_then (λ l. if is_shown_to c k l then Some l else None) (slice_get p.letters msg.0)

abbrev pub reply : ℕ → ℕ → Plain → MsgId → ℕ → ℕ → Mailed
reply c k p msg error outcome = option_map_or (replies_over c p msg error outcome) (shown_letter c k p msg) (refused p NotTaken)

-- lwkt_abortmsg (own: a request alone)
abbrev pub abort_refusal : ℕ → ℕ → Letter → Option Fault
abort_refusal c k l =
    if not (is_of c k l) then Some NotOwner
    else (if is_out l.word.state then (if l.word.abortable then None else Some NotAbortable)
    else (if is_with l.word.state then (if l.word.abortable then None else Some NotAbortable)
    else Some NotOut))

abbrev pub abort : ℕ → ℕ → Plain → MsgId → Mailed
abort c k p msg =
    option_map_or (λ l. option_map_or (refused p) (abort_refusal c k l) (mailed (with_letter aborted msg.0 p) (Runs Done))) (slice_get p.letters msg.0)
    (refused p NotOwner)

-- whether a message that the thread was shown is to be aborted (own)
abbrev pub is_aborted : ℕ → ℕ → Plain → MsgId → Mailed
is_aborted c k p msg =
    option_map_or (λ l. mailed p (Runs (Value (if l.word.aborted then 1 else 0)))) (shown_letter c k p msg) (refused p NotTaken)

-- lwkt_dropmsg (own: by the origin, before the message is taken)
abbrev pub drop_refusal : ℕ → ℕ → Letter → Option Fault
drop_refusal c k l =
    if not (is_of c k l) then Some NotOwner
    else (if not (is_out l.word.state) then Some NotOut
    else (if l.word.dropable then None else Some NotDropable))

abbrev pub drop_msg : ℕ → ℕ → Plain → MsgId → Mailed
drop_msg c k p msg =
    option_map_or (λ l. option_map_or (refused p) (drop_refusal c k l) (mailed (with_letter come_home msg.0 p) (Runs (Dropped msg l.rec))))
    (slice_get p.letters msg.0) (refused p NotOwner)

-- lwkt_getport
abbrev pub get_port : ℕ → ℕ → Plain → Mailed
get_port c k p = let now = looks c k p in mailed now.plain (Runs (option_map_or (λ item. Got item) now.item NoMsg))

-- lwkt_waitport: an item that is there is had at once; else the thread gives up its list, of so many references, and waits
abbrev pub wait_port : ℕ → ℕ → Plain → ℕ → Mailed
wait_port c k p count = let now = looks c k p in mailed now.plain (option_map_or (λ item. Runs (Got item)) now.item (Leaves count AwaitsItem))
