-- The events of a written trace, its messages and where they are at the close as values of JSON, and what is read of them (own).
use Rattle.std.specs.Prelude.{◌≡◌, ℕ, ◌<◌, ◌≤◌, List, [], ◌∷◌, ◌++◌, length, map, take, codes, Some, Ok}
use Rattle.serde_json.specs.Data.{Data, number, unsigned, string, array, object, Items, no_items, item, no_members, member}
use Rattle.lwkt_base.specs.Blob.{kept_of}
use Rattle.lwkt_base.specs.Hex.{hex_text}
use Rattle.lwkt_base.specs.declared.opening_specs.MsgSpec.{MsgSpec}
use Rattle.lwkt_base.specs.declared.owners.Owner.{Owner}
use Rattle.lwkt_base.specs.declared.owners.Owner.TheVariants.{Rest, Out, With, Back}
use Rattle.lwkt_base.specs.declared.owners.MsgEnd.{MsgEnd}
use Rattle.lwkt_base.specs.declared.limits.TheConstants.{MESSAGE_LIMIT, RECORD_LIMIT, TRACE_EVENTS}
use Rattle.lwkt_core.specs.Events.{cpu_of}
use Rattle.lwkt_core.specs.declared.events.Event.{Event}
use Rattle.lwkt_core.specs.declared.events.Event.TheVariants.{Load, Take, Share, Again, Mark, GiveOne, GiveClean, GiveWritten, Read, Write, ReadBlob, WriteBlob, Send, TakeMsg, DropMsg, Reply, Reap, Abort}
use Rattle.lwkt_script.specs.Limits.{IsMessage}
use Rattle.lwkt_script.specs.Outcome.{each}
use Rattle.lwkt_trace.specs.Format.{event, end, message_behind}
use Rattle.lwkt_trace.specs.Words.{event_of}
use Rattle.lwkt_trace.specs.Written.{word_of_event, past_text}
use Rattle.lwkt_trace.specs.declared.traces.Stated.{Stated}
use Rattle.lwkt_trace.specs.declared.traces.Stated.TheVariants.{Whole, Given}

-- a whole number, and a record by its digits
abbrev pub number_data : ℕ → Data
number_data n = number (unsigned n)

abbrev pub blob_data : List ℕ → Data
blob_data blob = string (hex_text (take RECORD_LIMIT blob) ++ past_text blob)

-- one item, two and three
abbrev pub one_item : Data → Items
one_item a = item a no_items

abbrev pub two_items : Data → Data → Items
two_items a b = item a (one_item b)

abbrev pub three_items : Data → Data → Data → Items
three_items a b c = item a (two_items b c)

-- values of one kind as items, in order
abbrev pub items_as : {A : Type 0} → (A → Data) → List A → Items
items_as value [] = no_items
items_as value (x ∷ xs) = item (value x) (items_as value xs)

-- what an event is at, and what else it says; of a written give not its section
abbrev pub rest_data : Event → Items
rest_data (Load cpu tok) = one_item (number_data tok.0)
rest_data (Take cpu tok) = one_item (number_data tok.0)
rest_data (Share cpu tok) = one_item (number_data tok.0)
rest_data (Again cpu tok) = one_item (number_data tok.0)
rest_data (Mark cpu tok) = one_item (number_data tok.0)
rest_data (GiveOne cpu tok) = one_item (number_data tok.0)
rest_data (GiveClean cpu tok) = one_item (number_data tok.0)
rest_data (GiveWritten cpu tok section) = one_item (number_data tok.0)
rest_data (Read cpu tok cell value) = three_items (number_data tok.0) (number_data cell) (number_data value)
rest_data (Write cpu tok cell value) = three_items (number_data tok.0) (number_data cell) (number_data value)
rest_data (ReadBlob cpu tok blob) = two_items (number_data tok.0) (blob_data blob)
rest_data (WriteBlob cpu tok blob) = two_items (number_data tok.0) (blob_data blob)
rest_data (Send cpu msg to round) = three_items (number_data msg.0) (number_data to.0) (number_data round)
rest_data (TakeMsg cpu msg round) = two_items (number_data msg.0) (number_data round)
rest_data (DropMsg cpu msg) = one_item (number_data msg.0)
rest_data (Reply cpu msg) = one_item (number_data msg.0)
rest_data (Reap cpu msg) = one_item (number_data msg.0)
rest_data (Abort cpu msg) = one_item (number_data msg.0)

-- an event as a list: its word, its processor, and the rest
abbrev pub event_data : Event → Data
event_data e = array (item (string (word_of_event e)) (item (number_data (cpu_of e)) (rest_data e)))

-- an event as it is stated where no section is
abbrev pub stated_alone : Event → Stated
stated_alone (GiveWritten cpu tok section) = Given cpu tok
stated_alone e = Whole e

-- numbers of 8 bits
abbrev pub AreBytes : List ℕ → Type 0
AreBytes [] = Unit {0}
AreBytes (b ∷ bs) = (b < 256) × AreBytes bs

-- a record of at most 64 bytes, or one of 65, which is too long for every token and keeps 64
pub record IsStatedBlob (blob : List ℕ) : Type 0 where
  pub short : length blob ≤ 65
  pub bytes : AreBytes blob
  pub kept : kept_of blob ≡ blob

-- a processor and what it is at have numbers of 8 bits
abbrev pub AreSmall : ℕ → ℕ → Type 0
AreSmall cpu place = (cpu ≤ 255) × (place ≤ 255)

-- an event whose parts are of their types
abbrev pub IsWritable : Event → Type 0
IsWritable (Load cpu tok) = AreSmall cpu.0 tok.0
IsWritable (Take cpu tok) = AreSmall cpu.0 tok.0
IsWritable (Share cpu tok) = AreSmall cpu.0 tok.0
IsWritable (Again cpu tok) = AreSmall cpu.0 tok.0
IsWritable (Mark cpu tok) = AreSmall cpu.0 tok.0
IsWritable (GiveOne cpu tok) = AreSmall cpu.0 tok.0
IsWritable (GiveClean cpu tok) = AreSmall cpu.0 tok.0
IsWritable (GiveWritten cpu tok section) = AreSmall cpu.0 tok.0
IsWritable (Read cpu tok cell value) = AreSmall cpu.0 tok.0 × (cell ≤ 255)
IsWritable (Write cpu tok cell value) = AreSmall cpu.0 tok.0 × (cell ≤ 255)
IsWritable (ReadBlob cpu tok blob) = AreSmall cpu.0 tok.0 × IsStatedBlob blob
IsWritable (WriteBlob cpu tok blob) = AreSmall cpu.0 tok.0 × IsStatedBlob blob
IsWritable (Send cpu msg to round) = AreSmall cpu.0 msg.0 × (to.0 ≤ 255)
IsWritable (TakeMsg cpu msg round) = AreSmall cpu.0 msg.0
IsWritable (DropMsg cpu msg) = AreSmall cpu.0 msg.0
IsWritable (Reply cpu msg) = AreSmall cpu.0 msg.0
IsWritable (Reap cpu msg) = AreSmall cpu.0 msg.0
IsWritable (Abort cpu msg) = AreSmall cpu.0 msg.0

-- events as a list
abbrev pub events_data : List Event → Items
events_data es = items_as event_data es

abbrev pub AreWritable : List Event → Type 0
AreWritable [] = Unit {0}
AreWritable (e ∷ es) = IsWritable e × AreWritable es

-- a law: the list that an event is written as is read as this event
abbrev pub EventsAreReadBack : Type 0
EventsAreReadBack = (e : Event) → IsWritable e → event_of (event_data e) ≡ Some (stated_alone e)

-- a law: the list of the lists that events are written as is read as these events, where a trace may have so many
abbrev pub EventListsAreReadBack : Type 0
EventListsAreReadBack = (es : List Event) → AreWritable es → length es ≤ TRACE_EVENTS → each event [] (events_data es) ≡ Ok (map stated_alone es)

-- where a message is, as a list: a word, its processors and its round
abbrev pub end_data : Owner → ℕ → Data
end_data (Rest origin) round = array (item (string (codes "rest")) (two_items (number_data origin.0) (number_data round)))
end_data (Out origin target) round = array (item (string (codes "out")) (three_items (number_data origin.0) (number_data target.0) (number_data round)))
end_data (With origin target) round = array (item (string (codes "with")) (three_items (number_data origin.0) (number_data target.0) (number_data round)))
end_data (Back origin target) round = array (item (string (codes "back")) (three_items (number_data origin.0) (number_data target.0) (number_data round)))

-- the processors have numbers of 8 bits
abbrev pub IsWritablePlace : Owner → Type 0
IsWritablePlace (Rest origin) = origin.0 ≤ 255
IsWritablePlace (Out origin target) = AreSmall origin.0 target.0
IsWritablePlace (With origin target) = AreSmall origin.0 target.0
IsWritablePlace (Back origin target) = AreSmall origin.0 target.0

-- ends of messages as a list
abbrev pub ends_data : List MsgEnd → Items
ends_data es = items_as (λ e. end_data e.state e.round) es

abbrev pub AreWritableEnds : List MsgEnd → Type 0
AreWritableEnds [] = Unit {0}
AreWritableEnds (e ∷ es) = IsWritablePlace e.state × AreWritableEnds es

-- a law: the list of the ends of at most 64 messages is read as these ends
abbrev pub EndsAreReadBack : Type 0
EndsAreReadBack = (es : List MsgEnd) → AreWritableEnds es → length es ≤ MESSAGE_LIMIT → each end [] (ends_data es) ≡ Ok es

-- a message of the opening: its origin and its round
abbrev pub message_data : MsgSpec → Data
message_data m = object (member (codes "of") (array (two_items (number_data m.origin.cpu.0) (number_data m.origin.thread))) (member (codes "round") (number_data m.round) no_members))

-- messages of the opening as a list
abbrev pub messages_data : List MsgSpec → Items
messages_data ms = items_as message_data ms

abbrev pub AreMessages : ℕ → List MsgSpec → Type 0
AreMessages cpus [] = Unit {0}
AreMessages cpus (m ∷ ms) = IsMessage cpus m × AreMessages cpus ms

-- a law: the list of at most 64 messages that a script may have is read as these messages
abbrev pub MessagesAreReadBack : Type 0
MessagesAreReadBack = (cpus : ℕ) (ms : List MsgSpec) → AreMessages cpus ms → length ms ≤ MESSAGE_LIMIT → each (message_behind cpus) [] (messages_data ms) ≡ Ok ms
