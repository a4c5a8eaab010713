-- What a thread of a script asks, and what the answers put in its log (own).
use Rattle.std.specs.Prelude.{ℕ, ◌/◌, ◌%◌, ◌==◌, ◌&&◌, nat_lt, if◌then◌else◌, List, length, slice_get, Option, Some, None}
use Rattle.lwkt_base.specs.declared.asks.Ask.{Ask}
use Rattle.lwkt_base.specs.declared.asks.Ask.TheVariants.{IsAborted, Exit, Fail}
use Rattle.lwkt_base.specs.declared.asks.Item.{Item}
use Rattle.lwkt_base.specs.declared.asks.Item.TheVariants.{Request, Answered}
use Rattle.lwkt_base.specs.declared.asks.Answer.{Answer}
use Rattle.lwkt_base.specs.declared.asks.Answer.TheVariants.{Begin, Done, Value, Bytes, Dropped, Got, NoMsg, Refused}
use Rattle.lwkt_base.specs.declared.entries.Entry.{Entry}
use Rattle.lwkt_base.specs.declared.entries.Entry.TheVariants.{Value as ValueEntry, Bytes as BytesEntry, Aborted, Request as RequestEntry, Reply as ReplyEntry, NoMessage, Dropped as DroppedEntry, Refused as RefusedEntry, Failed}
use Rattle.lwkt_base.specs.Fault.{number_of}

-- ask k of a thread: its steps, so many times over, and then Exit
abbrev pub nth_ask : ℕ → List Ask → ℕ → Option Ask
nth_ask repeat steps k =
    if length steps == 0 then (if k == 0 then Some Exit else None) else (
    if nat_lt (k / length steps) repeat then slice_get steps (k % length steps) else (
    if k / length steps == repeat && k % length steps == 0 then Some Exit else None))

-- the entry of a value: of a question whether a message is to be aborted, or of a read
abbrev pub value_entry : Ask → ℕ → Entry
value_entry (IsAborted msg) value = Aborted (value == 1)
value_entry _ value = ValueEntry value

-- the entry of an item
abbrev pub item_entry : Item → Entry
item_entry (Request msg call) = RequestEntry msg call
item_entry (Answered msg error outcome) = ReplyEntry msg error outcome

-- what an answer to an ask puts in the log
abbrev pub entry_of : Ask → Answer → Option Entry
entry_of ask Begin = None
entry_of ask Done = None
entry_of ask (Value value) = Some (value_entry ask value)
entry_of ask (Bytes blob) = Some (BytesEntry blob)
entry_of ask (Dropped msg rec) = Some (DroppedEntry msg (record { arg = rec.arg; op = rec.op }))
entry_of ask (Got item) = Some (item_entry item)
entry_of ask NoMsg = Some NoMessage
entry_of ask (Refused fault) = Some (RefusedEntry (number_of fault))

-- what an ask puts in the log by itself: that to end by an assertion that doesn't hold, its number
abbrev pub failure_of : Ask → Option Entry
failure_of (Fail number) = Some (Failed number)
failure_of _ = None
