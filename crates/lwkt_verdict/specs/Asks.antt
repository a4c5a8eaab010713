-- What an ask can be answered, and what it leaves of the thread that made it (own).
use Rattle.std.specs.Prelude.{ℕ, ◌==◌, ◌||◌, nat_le, Bool, true, false, List, [], ◌∷◌, Option, Some, None}
use Rattle.std.specs.List.{list_any}
use Rattle.lwkt_base.specs.declared.asks.Ask.{Ask}
use Rattle.lwkt_base.specs.declared.asks.Ask.TheVariants.{Get, GetShared, TryGet, Rel, Swap, Read, Write, Add, ReadBlob, WriteBlob, Send, Do, Reply, Abort, IsAborted, DropMsg, GetPort, WaitPort, Yield, Exit, Fail}
use Rattle.lwkt_base.specs.declared.asks.Item.{Item}
use Rattle.lwkt_base.specs.declared.asks.Item.TheVariants.{Request, Answered}
use Rattle.lwkt_base.specs.declared.asks.Answer.{Answer}
use Rattle.lwkt_base.specs.declared.asks.Answer.TheVariants.{Begin, Done, Value, Bytes, Dropped, Got, NoMsg, Refused}
use Rattle.lwkt_base.specs.Fault.{number_of}

-- the numbers of the faults with which an ask can be refused
abbrev pub refusals : Ask → List ℕ
refusals (Get tok) = 16 ∷ 10 ∷ 11 ∷ 20 ∷ []
refusals (GetShared tok) = 16 ∷ 10 ∷ []
refusals (TryGet tok) = 16 ∷ 10 ∷ 11 ∷ 20 ∷ 23 ∷ 34 ∷ []
refusals (Rel tok) = 13 ∷ 12 ∷ 19 ∷ []
refusals Swap = 15 ∷ 14 ∷ []
refusals (Read tok cell) = 16 ∷ 17 ∷ 13 ∷ []
refusals (Write tok cell value) = 16 ∷ 17 ∷ 13 ∷ 18 ∷ 22 ∷ []
refusals (Add tok more) = 16 ∷ 13 ∷ 18 ∷ 22 ∷ 21 ∷ []
refusals (ReadBlob tok) = 16 ∷ 17 ∷ 13 ∷ 37 ∷ []
refusals (WriteBlob tok blob) = 16 ∷ 17 ∷ 13 ∷ 37 ∷ 38 ∷ []
refusals (Send msg to call flags) = 30 ∷ 25 ∷ 24 ∷ 36 ∷ []
refusals (Do msg to call) = 30 ∷ 29 ∷ 25 ∷ 24 ∷ 36 ∷ []
refusals (Reply msg error outcome) = 31 ∷ 24 ∷ []
refusals (Abort msg) = 25 ∷ 26 ∷ 27 ∷ []
refusals (IsAborted msg) = 31 ∷ []
refusals (DropMsg msg) = 25 ∷ 26 ∷ 28 ∷ []
refusals GetPort = 34 ∷ []
refusals WaitPort = []
refusals Yield = []
refusals Exit = []
refusals (Fail number) = []

-- whether an ask can be refused with a fault of this number
abbrev pub may_refuse : Ask → ℕ → Bool
may_refuse ask number = list_any (λ n. n == number) (refusals ask)

-- whether an ask can be answered that it is done
abbrev pub may_be_done : Ask → Bool
may_be_done (Get tok) = true
may_be_done (GetShared tok) = true
may_be_done (TryGet tok) = true
may_be_done (Rel tok) = true
may_be_done Swap = true
may_be_done (Read tok cell) = false
may_be_done (Write tok cell value) = true
may_be_done (Add tok more) = true
may_be_done (ReadBlob tok) = false
may_be_done (WriteBlob tok blob) = true
may_be_done (Send msg to call flags) = true
may_be_done (Do msg to call) = false
may_be_done (Reply msg error outcome) = true
may_be_done (Abort msg) = true
may_be_done (IsAborted msg) = false
may_be_done (DropMsg msg) = false
may_be_done GetPort = false
may_be_done WaitPort = false
may_be_done Yield = true
may_be_done Exit = false
may_be_done (Fail number) = false

-- whether an ask can be answered by this value: a read by any, a question whether a message is to be aborted by 0 or 1
abbrev pub may_give_value : Ask → ℕ → Bool
may_give_value (Read tok cell) value = true
may_give_value (IsAborted msg) value = nat_le value 1
may_give_value _ value = false

-- whether an ask can be answered by a record: a read of one by any
abbrev pub may_give_bytes : Ask → Bool
may_give_bytes (ReadBlob tok) = true
may_give_bytes _ = false

-- whether an ask can be answered by this message's record
abbrev pub may_drop : Ask → ℕ → Bool
may_drop (DropMsg mine) msg = mine.0 == msg
may_drop _ msg = false

-- whether an item is the reply to this message
abbrev pub is_reply_to : ℕ → Item → Bool
is_reply_to msg (Request other call) = false
is_reply_to msg (Answered other error outcome) = msg == other.0

-- whether an ask can be answered by this item of the port: a synchronous send by the reply to its message alone
abbrev pub may_give_item : Ask → Item → Bool
may_give_item GetPort item = true
may_give_item WaitPort item = true
may_give_item (Do msg to call) item = is_reply_to msg.0 item
may_give_item _ item = false

-- whether an ask can be answered that the port has nothing
abbrev pub may_find_nothing : Ask → Bool
may_find_nothing GetPort = true
may_find_nothing _ = false

-- whether an ask can have an answer
abbrev pub may_answer : Ask → Answer → Bool
may_answer ask Begin = false
may_answer ask Done = may_be_done ask
may_answer ask (Value value) = may_give_value ask value
may_answer ask (Bytes blob) = may_give_bytes ask
may_answer ask (Dropped msg rec) = may_drop ask msg.0
may_answer ask (Got item) = may_give_item ask item
may_answer ask NoMsg = may_find_nothing ask
may_answer ask (Refused fault) = may_refuse ask (number_of fault)

-- whether an ask has an answer, and it is a refusal
abbrev pub is_refused : Option Answer → Bool
is_refused None = false
is_refused (Some Begin) = false
is_refused (Some Done) = false
is_refused (Some (Value value)) = false
is_refused (Some (Bytes blob)) = false
is_refused (Some (Dropped msg rec)) = false
is_refused (Some (Got item)) = false
is_refused (Some NoMsg) = false
is_refused (Some (Refused fault)) = true

-- whether an ask that isn't refused makes an event of its own
abbrev pub makes_event : Ask → Bool
makes_event (Get tok) = false
makes_event (GetShared tok) = false
makes_event (TryGet tok) = false
makes_event (Rel tok) = false
makes_event Swap = false
makes_event (Read tok cell) = true
makes_event (Write tok cell value) = true
makes_event (Add tok more) = true
makes_event (ReadBlob tok) = true
makes_event (WriteBlob tok blob) = true
makes_event (Send msg to call flags) = true
makes_event (Do msg to call) = true
makes_event (Reply msg error outcome) = true
makes_event (Abort msg) = true
makes_event (IsAborted msg) = false
makes_event (DropMsg msg) = true
makes_event GetPort = false
makes_event WaitPort = false
makes_event Yield = false
makes_event Exit = false
makes_event (Fail number) = false

-- whether an ask is a synchronous send, which goes on after its own event
abbrev pub is_do : Ask → Bool
is_do (Do msg to call) = true
is_do _ = false

-- whether an ask is that to exit
abbrev pub is_exit : Ask → Bool
is_exit Exit = true
is_exit _ = false

-- whether an ask is that to end by an assertion that doesn't hold
abbrev pub is_fail : Ask → Bool
is_fail (Fail number) = true
is_fail _ = false

-- whether an ask is the last one of a thread: it has no answer
abbrev pub is_end : Ask → Bool
is_end ask = is_exit ask || is_fail ask

-- whether an ask can leave its thread waiting for its port or for a reply
abbrev pub may_wait : Ask → Bool
may_wait (Do msg to call) = true
may_wait WaitPort = true
may_wait _ = false

-- whether an ask can block its thread and leave it to go on
abbrev pub may_block : Ask → Bool
may_block (Get tok) = true
may_block (GetShared tok) = true
may_block (Do msg to call) = true
may_block WaitPort = true
may_block Yield = true
may_block _ = false
