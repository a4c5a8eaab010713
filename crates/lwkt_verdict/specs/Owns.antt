-- The events that an ask makes itself, and those that may stand in a part of a trace unasked (own).
use Rattle.std.specs.Prelude.{◌≡◌, ℕ, ◌+◌, ◌-◌, ◌==◌, ◌&&◌, nat_lt, bytes_eq, Bool, true, false, not, List, [], ◌∷◌, length, slice_get, if◌then◌else◌, Option, Some, None, IsSomeAnd}
use Rattle.std.specs.Option.{option_map_or}
use Rattle.lwkt_base.specs.declared.asks.Ask.{Ask}
use Rattle.lwkt_base.specs.declared.asks.Ask.TheVariants.{Get, GetShared, Read as ReadAsk, Write as WriteAsk, Add as AddAsk, ReadBlob as ReadBlobAsk, WriteBlob as WriteBlobAsk, Send as SendAsk, Do as DoAsk, Reply as ReplyAsk, Abort as AbortAsk, DropMsg as DropAsk, WaitPort, Yield, Exit, Fail}
use Rattle.lwkt_base.specs.declared.asks.Answer.{Answer}
use Rattle.lwkt_base.specs.declared.asks.Answer.TheVariants.{Begin, Done, Value, Bytes, Dropped, Got, NoMsg, Refused}
use Rattle.lwkt_base.specs.declared.laws.Law.{Law}
use Rattle.lwkt_base.specs.declared.laws.Law.TheVariants.{Any, Sum, Order, Cap, Tally, Len}
use Rattle.lwkt_base.specs.declared.names.Mode.TheVariants.{Exclusive}
use Rattle.lwkt_base.specs.declared.holdings.Held.TheVariants.{Holds}
use Rattle.lwkt_core.specs.declared.tokens.Token.{Token}
use Rattle.lwkt_core.specs.declared.events.Event.{Event}
use Rattle.lwkt_core.specs.declared.events.Event.TheVariants.{Load, Take, Share, Again, Mark, GiveOne, GiveClean, GiveWritten, Read, Write, ReadBlob, WriteBlob, Send, TakeMsg, DropMsg, Reply, Reap, Abort}
use Rattle.lwkt_core.specs.Events.{adds_reference}
use Rattle.lwkt_core.specs.Machine.{Machine}
use Rattle.lwkt_core.specs.Tokens.{held_by}
use Rattle.lwkt_core.specs.Values.{cell_at}
use Rattle.lwkt_verdict.specs.Asks.{is_do}

-- the laws that a section can break: nothing breaks Any, and the law of a Tally token asks nothing of a section
abbrev pub can_break : Law → Bool
can_break Any = false
can_break Sum = true
can_break Order = true
can_break Cap = true
can_break Tally = false
can_break Len = true

-- a section of a token may be ending broken: its law is one that a section can break, and of the processor's references one is left,
-- which is exclusive
abbrev pub MayEndBroken : Token → ℕ → Type 0
MayEndBroken t cpu = (can_break t.law ≡ true) × (held_by t cpu ≡ Holds Exclusive 0)

-- as such a section ends, this value may be stored again in this cell: it is the first one
abbrev pub MayStoreFirst : ℕ → ℕ → ℕ → Token → Type 0
MayStoreFirst cpu cell value t = MayEndBroken t cpu × (slice_get t.first cell ≡ Some value)

-- as such a section ends, this record may be stored again: it is the first one, another one is there, and the row is the first one
abbrev pub MayPutFirst : ℕ → List ℕ → Token → Type 0
MayPutFirst cpu blob t = MayEndBroken t cpu × ((t.first_blob ≡ Some blob) × (¬ (t.blob ≡ Some blob)) × (t.row ≡ t.first))

-- an event may happen unasked: no read, send, abort or drop may; a write of a cell or of a record only as a section of its token may be
-- ending broken, of the cell's first value or of the first record in place of another
abbrev pub IsQuiet : Machine → Event → Type 0
IsQuiet m (Read cpu tok cell value) = ⊥
IsQuiet m (Send cpu msg to round) = ⊥
IsQuiet m (Abort cpu msg) = ⊥
IsQuiet m (DropMsg cpu msg) = ⊥
IsQuiet m (Write cpu tok cell value) = IsSomeAnd (slice_get m.tokens tok.0) (MayStoreFirst cpu.0 cell value)
IsQuiet m (ReadBlob cpu tok blob) = ⊥
IsQuiet m (WriteBlob cpu tok blob) = IsSomeAnd (slice_get m.tokens tok.0) (MayPutFirst cpu.0 blob)
IsQuiet m (Load cpu tok) = Unit {0}
IsQuiet m (Take cpu tok) = Unit {0}
IsQuiet m (Share cpu tok) = Unit {0}
IsQuiet m (Again cpu tok) = Unit {0}
IsQuiet m (Mark cpu tok) = Unit {0}
IsQuiet m (GiveOne cpu tok) = Unit {0}
IsQuiet m (GiveClean cpu tok) = Unit {0}
IsQuiet m (GiveWritten cpu tok section) = Unit {0}
IsQuiet m (TakeMsg cpu msg round) = Unit {0}
IsQuiet m (Reply cpu msg) = Unit {0}
IsQuiet m (Reap cpu msg) = Unit {0}

-- an answer, if there is one, is this value
abbrev pub agrees : Option Answer → ℕ → Bool
agrees None value = true
agrees (Some (Value given)) value = given == value
agrees (Some Begin) value = false
agrees (Some Done) value = false
agrees (Some (Bytes blob)) value = false
agrees (Some (Dropped msg rec)) value = false
agrees (Some (Got item)) value = false
agrees (Some NoMsg) value = false
agrees (Some (Refused fault)) value = false

-- an answer, if there is one, is this record
abbrev pub agrees_with_record : Option Answer → List ℕ → Bool
agrees_with_record None blob = true
agrees_with_record (Some (Bytes given)) blob = bytes_eq given blob
agrees_with_record (Some (Value value)) blob = false
agrees_with_record (Some Begin) blob = false
agrees_with_record (Some Done) blob = false
agrees_with_record (Some (Dropped msg rec)) blob = false
agrees_with_record (Some (Got item)) blob = false
agrees_with_record (Some NoMsg) blob = false
agrees_with_record (Some (Refused fault)) blob = false

-- whether an event reads this cell, and the value agrees with the answer
abbrev pub is_read : ℕ → ℕ → Option Answer → Event → Bool
is_read tok cell answer (Read cpu t c value) = t.0 == tok && c == cell && agrees answer value
is_read tok cell answer _ = false

-- whether an event stores this value in this cell
abbrev pub is_write : ℕ → ℕ → ℕ → Event → Bool
is_write tok cell value (Write cpu t c v) = t.0 == tok && c == cell && v == value
is_write tok cell value _ = false

-- whether an event reads this token's record, and that agrees with the answer
abbrev pub is_record_read : ℕ → Option Answer → Event → Bool
is_record_read tok answer (ReadBlob cpu t blob) = t.0 == tok && agrees_with_record answer blob
is_record_read tok answer _ = false

-- whether an event stores this record in this token
abbrev pub is_record_write : ℕ → List ℕ → Event → Bool
is_record_write tok blob (WriteBlob cpu t b) = t.0 == tok && bytes_eq b blob
is_record_write tok blob _ = false

-- whether an event adds this to the first cell of a token, where that has a value
abbrev pub is_raise : Option ℕ → ℕ → ℕ → Event → Bool
is_raise None tok more e = false
is_raise (Some old) tok more e = is_write tok 0 (old + more) e

-- whether an event sends this message to this processor
abbrev pub is_send_of : ℕ → ℕ → Event → Bool
is_send_of msg to (Send cpu m q round) = m.0 == msg && q.0 == to
is_send_of msg to _ = false

-- whether an event is a reply to this message
abbrev pub is_reply_of : ℕ → Event → Bool
is_reply_of msg (Reply cpu m) = m.0 == msg
is_reply_of msg _ = false

-- whether an event asks for this message to be aborted
abbrev pub is_abort_of : ℕ → Event → Bool
is_abort_of msg (Abort cpu m) = m.0 == msg
is_abort_of msg _ = false

-- whether an event drops this message
abbrev pub is_drop_of : ℕ → Event → Bool
is_drop_of msg (DropMsg cpu m) = m.0 == msg
is_drop_of msg _ = false

-- whether an event is what an ask makes of this machine, with this answer or none yet: a read that was answered by its value or
-- record, a write of the value or record that was asked, for an addition of the old value and what is added, a send, a reply, an abort or a drop;
-- any other ask makes none
abbrev pub is_own : Machine → Ask → Option Answer → Event → Bool
is_own m (ReadAsk tok cell) answer e = is_read tok.0 cell answer e
is_own m (WriteAsk tok cell value) answer e = is_write tok.0 cell value e
is_own m (AddAsk tok more) answer e = is_raise (cell_at m tok.0 0) tok.0 more e
is_own m (ReadBlobAsk tok) answer e = is_record_read tok.0 answer e
is_own m (WriteBlobAsk tok blob) answer e = is_record_write tok.0 blob e
is_own m (SendAsk msg to call flags) answer e = is_send_of msg.0 to.cpu.0 e
is_own m (DoAsk msg to call) answer e = is_send_of msg.0 to.cpu.0 e
is_own m (ReplyAsk msg error outcome) answer e = is_reply_of msg.0 e
is_own m (AbortAsk msg) answer e = is_abort_of msg.0 e
is_own m (DropAsk msg) answer e = is_drop_of msg.0 e
is_own m _ answer e = false

-- whether an event sends a message
abbrev pub is_send : Event → Bool
is_send (Send cpu msg to round) = true
is_send _ = false

-- the place of the first send among some events, or their number
abbrev pub first_send : List Event → ℕ
first_send [] = 0
first_send (e ∷ es) = if is_send e then 0 else (first_send es + 1)

-- where in its part the event of an ask stands: at the end, or for a synchronous send where the first send is
abbrev pub own_place : Ask → List Event → ℕ
own_place ask part = if is_do ask then first_send part else (length part - 1)

-- whether a part ends with a take, a share or a further reference, as that of a reference which was had at once
abbrev pub ends_taking : List Event → Bool
ends_taking part = option_map_or adds_reference (slice_get part (length part - 1)) false

-- whether its part shows that an ask, where it wasn't refused, blocked its thread: a blocking request for a token doesn't end
-- with a reference, and a synchronous send has its send; a wait for the port may block, to yield and to end do
abbrev pub has_blocked : Ask → List Event → Bool
has_blocked (Get tok) part = not (ends_taking part)
has_blocked (GetShared tok) part = not (ends_taking part)
has_blocked (DoAsk msg to call) part = nat_lt (first_send part) (length part)
has_blocked WaitPort part = true
has_blocked Yield part = true
has_blocked Exit part = true
has_blocked (Fail number) part = true
has_blocked _ part = false
