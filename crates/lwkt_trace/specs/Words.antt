-- The events of a trace and the ends of messages, by their words and how many items they have (own).
use Rattle.std.specs.Prelude.{◌≡◌, ℕ, ◌==◌, nat_le, List, [], ◌∷◌, ◌++◌, codes, bytes_eq, if◌then◌else◌, Option, Some, None, option_map}
use Rattle.std.specs.Fmt.{decimal}
use Rattle.std.specs.List.{flat_map}
use Rattle.serde_json.specs.Data.{Data, Items, no_items, item}
use Rattle.serde_json.specs.Events.{items_len}
use Rattle.serde_json.specs.Find.{at, as_array, as_str}
use Rattle.lwkt_base.specs.declared.names.CpuId.{CpuId}
use Rattle.lwkt_base.specs.declared.names.TokId.{TokId}
use Rattle.lwkt_base.specs.declared.names.MsgId.{MsgId}
use Rattle.lwkt_base.specs.declared.owners.Owner.TheVariants.{Rest, Out, With, Back}
use Rattle.lwkt_base.specs.declared.owners.MsgEnd.{MsgEnd}
use Rattle.lwkt_base.specs.declared.sections.Section.{Section}
use Rattle.lwkt_base.specs.declared.limits.TheConstants.{CELL_LIMIT}
use Rattle.lwkt_core.specs.declared.events.Event.{Event}
use Rattle.lwkt_core.specs.declared.events.Event.TheVariants.{Load, Take, Share, Again, Mark, GiveOne, GiveClean, GiveWritten, Read, Write, ReadBlob, WriteBlob, Send, TakeMsg, DropMsg, Reply, Reap, Abort}
use Rattle.lwkt_core.specs.declared.events.Place.{Place}
use Rattle.lwkt_core.specs.declared.events.Place.TheVariants.{AtToken, AtMessage}
use Rattle.lwkt_script.specs.Field.{item_count, whole}
use Rattle.lwkt_script.specs.Step.{◌>>=◌, small_at, whole_at}
use Rattle.lwkt_script.specs.Record.{blob_in}
use Rattle.lwkt_trace.specs.declared.traces.Stated.{Stated}
use Rattle.lwkt_trace.specs.declared.traces.Stated.TheVariants.{Whole, Given}
use Rattle.lwkt_trace.specs.declared.words.Subject.{Subject}
use Rattle.lwkt_trace.specs.declared.words.Subject.TheVariants.{Token, Message}

-- a processor, a token and a message by their numbers
abbrev pub cpu_id : ℕ → CpuId
cpu_id n = record { 0 = n }

abbrev pub tok_id : ℕ → TokId
tok_id n = record { 0 = n }

abbrev pub msg_id : ℕ → MsgId
msg_id n = record { 0 = n }

-- the event of a word with a processor and a token, but for a written give
abbrev pub with_token : List ℕ → ℕ → ℕ → Option Event
with_token word cpu tok =
    if bytes_eq word (codes "load") then Some (Load (cpu_id cpu) (tok_id tok)) else (
    if bytes_eq word (codes "take") then Some (Take (cpu_id cpu) (tok_id tok)) else (
    if bytes_eq word (codes "share") then Some (Share (cpu_id cpu) (tok_id tok)) else (
    if bytes_eq word (codes "again") then Some (Again (cpu_id cpu) (tok_id tok)) else (
    if bytes_eq word (codes "mark") then Some (Mark (cpu_id cpu) (tok_id tok)) else (
    if bytes_eq word (codes "give_one") then Some (GiveOne (cpu_id cpu) (tok_id tok)) else (
    if bytes_eq word (codes "give_clean") then Some (GiveClean (cpu_id cpu) (tok_id tok)) else None))))))

-- the event of a word with a processor and a message
abbrev pub with_message : List ℕ → ℕ → ℕ → Option Event
with_message word cpu msg =
    if bytes_eq word (codes "drop") then Some (DropMsg (cpu_id cpu) (msg_id msg)) else (
    if bytes_eq word (codes "reply") then Some (Reply (cpu_id cpu) (msg_id msg)) else (
    if bytes_eq word (codes "reap") then Some (Reap (cpu_id cpu) (msg_id msg)) else (
    if bytes_eq word (codes "abort") then Some (Abort (cpu_id cpu) (msg_id msg)) else None)))

-- the first of two that is there
abbrev pub or_else : {A : Type 0} → Option A → Option A → Option A
or_else (Some x) other = Some x
or_else None other = other

-- the event of a word with a processor and the number of what it is at
abbrev pub with_place : List ℕ → ℕ → ℕ → Option Event
with_place word cpu place = or_else (with_token word cpu place) (with_message word cpu place)

-- the event of a word with a processor, a message and a round
abbrev pub with_round : List ℕ → ℕ → ℕ → ℕ → Option Event
with_round word cpu msg round = if bytes_eq word (codes "take_msg") then Some (TakeMsg (cpu_id cpu) (msg_id msg) round) else None

-- the event of a word with a processor, a token, a cell and a value, or a message, a target and a round
abbrev pub with_value : List ℕ → ℕ → ℕ → ℕ → ℕ → Option Event
with_value word cpu place part value =
    if bytes_eq word (codes "read") then Some (Read (cpu_id cpu) (tok_id place) part value) else (
    if bytes_eq word (codes "write") then Some (Write (cpu_id cpu) (tok_id place) part value) else (
    if bytes_eq word (codes "send") then Some (Send (cpu_id cpu) (msg_id place) (cpu_id part) value) else None))

-- the event of a word with a processor, a token and a record
abbrev pub with_record : List ℕ → ℕ → ℕ → List ℕ → Option Event
with_record word cpu tok blob =
    if bytes_eq word (codes "read_record") then Some (ReadBlob (cpu_id cpu) (tok_id tok) blob) else (
    if bytes_eq word (codes "write_record") then Some (WriteBlob (cpu_id cpu) (tok_id tok) blob) else None)

-- the numbers of a list, behind those before them
abbrev pub numbers_behind : List ℕ → Items → Option (List ℕ)
numbers_behind before no_items = Some before
numbers_behind before (item d ds) = whole d >>= λ n. numbers_behind (before ++ n ∷ []) ds

-- a row: at most four whole numbers
abbrev pub row_of : Items → Option (List ℕ)
row_of items = if nat_le (items_len items) CELL_LIMIT then numbers_behind [] items else None

-- item i, a row
abbrev pub row_item : ℕ → Data → Option (List ℕ)
row_item i d = (at i d >>= as_array) >>= row_of

-- items 3 to 5, a section of a token: its generation, and the rows at its beginning and at its end
abbrev pub section_items : ℕ → Data → Option Section
section_items tok d = whole_at 3 d >>= λ generation. row_item 4 d >>= λ before. row_item 5 d >>= λ after. Some (record { before = before; after = after; generation = generation; tok = tok_id tok })

-- the event of a word with a processor and a section
abbrev pub with_section : List ℕ → ℕ → Section → Option Event
with_section word cpu section = if bytes_eq word (codes "give_written") then Some (GiveWritten (cpu_id cpu) section.tok section) else None

-- the event of a word with a processor, a message and a round, or with a processor, a token and a record of at most 65 bytes
abbrev pub event_with_round : List ℕ → Data → Option Event
event_with_round word d = small_at 1 d >>= λ cpu. small_at 2 d >>= λ msg. whole_at 3 d >>= λ round. with_round word cpu msg round

abbrev pub event_with_record : List ℕ → Data → Option Event
event_with_record word d = small_at 1 d >>= λ cpu. small_at 2 d >>= λ tok. (at 3 d >>= blob_in 65) >>= with_record word cpu tok

-- an event that is stated whole
abbrev pub whole_event : Option Event → Option Stated
whole_event event = option_map Whole event

-- what a word states with a processor and the number of what it is at: a written give's section isn't stated
abbrev pub stated_at : List ℕ → ℕ → ℕ → Option Stated
stated_at word cpu place =
    if bytes_eq word (codes "give_written") then Some (Given (cpu_id cpu) (tok_id place)) else whole_event (with_place word cpu place)

-- what a word states with three items in all, and the event that it says with four, five or six
abbrev pub stated_of_three : List ℕ → Data → Option Stated
stated_of_three word d = small_at 1 d >>= λ cpu. small_at 2 d >>= λ place. stated_at word cpu place

abbrev pub event_of_four : List ℕ → Data → Option Event
event_of_four word d = or_else (event_with_round word d) (event_with_record word d)

abbrev pub event_of_five : List ℕ → Data → Option Event
event_of_five word d = small_at 1 d >>= λ cpu. small_at 2 d >>= λ place. small_at 3 d >>= λ part. whole_at 4 d >>= λ value. with_value word cpu place part value

abbrev pub event_of_six : List ℕ → Data → Option Event
event_of_six word d = small_at 1 d >>= λ cpu. (small_at 2 d >>= λ tok. section_items tok d) >>= with_section word cpu

-- what a word states with so many items in all
abbrev pub happened : List ℕ → ℕ → Data → Option Stated
happened word count d =
    if count == 3 then stated_of_three word d else (
    if count == 4 then whole_event (event_of_four word d) else (
    if count == 5 then whole_event (event_of_five word d) else (
    if count == 6 then whole_event (event_of_six word d) else None)))

-- an event as it is stated: a word, and what goes with it
abbrev pub event_of : Data → Option Stated
event_of d = item_count d >>= λ count. (at 0 d >>= as_str) >>= λ word. happened word count d

-- a message's end by a word, its origin and its round
abbrev pub at_rest : List ℕ → ℕ → ℕ → Option MsgEnd
at_rest word origin round = if bytes_eq word (codes "rest") then Some (record { round = round; state = Rest (cpu_id origin) }) else None

-- a message's end by a word, its origin, its target and its round
abbrev pub at_other : List ℕ → ℕ → ℕ → ℕ → Option MsgEnd
at_other word origin target round =
    if bytes_eq word (codes "out") then Some (record { round = round; state = Out (cpu_id origin) (cpu_id target) }) else (
    if bytes_eq word (codes "with") then Some (record { round = round; state = With (cpu_id origin) (cpu_id target) }) else (
    if bytes_eq word (codes "back") then Some (record { round = round; state = Back (cpu_id origin) (cpu_id target) }) else None))

-- the end of a word with three items in all, with four, and with so many
abbrev pub end_of_three : List ℕ → Data → Option MsgEnd
end_of_three word d = small_at 1 d >>= λ origin. whole_at 2 d >>= λ round. at_rest word origin round

abbrev pub end_of_four : List ℕ → Data → Option MsgEnd
end_of_four word d = small_at 1 d >>= λ origin. small_at 2 d >>= λ target. whole_at 3 d >>= λ round. at_other word origin target round

abbrev pub end_by_word : List ℕ → ℕ → Data → Option MsgEnd
end_by_word word count d = if count == 3 then end_of_three word d else (if count == 4 then end_of_four word d else None)

-- a message's end: a word, and the numbers that go with it
abbrev pub message_end_of : Data → Option MsgEnd
message_end_of d = item_count d >>= λ count. (at 0 d >>= as_str) >>= λ word. end_by_word word count d

-- a word is that of an event: with the numbers of the event it is read as this event; of a written give with its section, or
-- without it as one whose section isn't stated
abbrev pub IsWordOf : List ℕ → Event → Type 0
IsWordOf word (Load cpu tok) = with_place word cpu.0 tok.0 ≡ Some (Load cpu tok)
IsWordOf word (Take cpu tok) = with_place word cpu.0 tok.0 ≡ Some (Take cpu tok)
IsWordOf word (Share cpu tok) = with_place word cpu.0 tok.0 ≡ Some (Share cpu tok)
IsWordOf word (Again cpu tok) = with_place word cpu.0 tok.0 ≡ Some (Again cpu tok)
IsWordOf word (Mark cpu tok) = with_place word cpu.0 tok.0 ≡ Some (Mark cpu tok)
IsWordOf word (GiveOne cpu tok) = with_place word cpu.0 tok.0 ≡ Some (GiveOne cpu tok)
IsWordOf word (GiveClean cpu tok) = with_place word cpu.0 tok.0 ≡ Some (GiveClean cpu tok)
IsWordOf word (GiveWritten cpu tok section) = (with_section word cpu.0 (record section { tok = tok }) ≡ Some (GiveWritten cpu tok (record section { tok = tok }))) × (stated_at word cpu.0 tok.0 ≡ Some (Given cpu tok))
IsWordOf word (Read cpu tok cell value) = with_value word cpu.0 tok.0 cell value ≡ Some (Read cpu tok cell value)
IsWordOf word (Write cpu tok cell value) = with_value word cpu.0 tok.0 cell value ≡ Some (Write cpu tok cell value)
IsWordOf word (ReadBlob cpu tok blob) = with_record word cpu.0 tok.0 blob ≡ Some (ReadBlob cpu tok blob)
IsWordOf word (WriteBlob cpu tok blob) = with_record word cpu.0 tok.0 blob ≡ Some (WriteBlob cpu tok blob)
IsWordOf word (Send cpu msg to round) = with_value word cpu.0 msg.0 to.0 round ≡ Some (Send cpu msg to round)
IsWordOf word (TakeMsg cpu msg round) = with_round word cpu.0 msg.0 round ≡ Some (TakeMsg cpu msg round)
IsWordOf word (DropMsg cpu msg) = with_place word cpu.0 msg.0 ≡ Some (DropMsg cpu msg)
IsWordOf word (Reply cpu msg) = with_place word cpu.0 msg.0 ≡ Some (Reply cpu msg)
IsWordOf word (Reap cpu msg) = with_place word cpu.0 msg.0 ≡ Some (Reap cpu msg)
IsWordOf word (Abort cpu msg) = with_place word cpu.0 msg.0 ≡ Some (Abort cpu msg)

-- what an event is at, as a place
abbrev pub place_at : Subject → Place
place_at (Token tok) = AtToken tok.0
place_at (Message msg) = AtMessage msg.0

-- numbers, each after a space
abbrev pub spaced_numbers : List ℕ → List ℕ
spaced_numbers numbers = flat_map (λ n. codes " " ++ decimal n) numbers

-- the same, or a `-` after a space where there is none
abbrev pub numbers_text : List ℕ → List ℕ
numbers_text [] = codes " -"
numbers_text (n ∷ ns) = spaced_numbers (n ∷ ns)
