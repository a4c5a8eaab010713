-- The text of a trace, as it is written: version 1, with the closing values, and no section stated (own).
use Rattle.std.specs.Prelude.{ℕ, ◌+◌, ◌==◌, Bool, List, [], ◌∷◌, ◌++◌, length, take, codes, nat_lt, is_some, if◌then◌else◌, Option, Some, None}
use Rattle.std.specs.Fmt.{decimal}
use Rattle.std.specs.List.{list_any}
use Rattle.lwkt_base.specs.Hex.{hex_text}
use Rattle.lwkt_base.specs.declared.laws.Law.{Law}
use Rattle.lwkt_base.specs.declared.laws.Law.TheVariants.{Any, Sum, Order, Cap, Tally, Len}
use Rattle.lwkt_base.specs.declared.opening_specs.MsgSpec.{MsgSpec}
use Rattle.lwkt_base.specs.declared.opening_specs.TokSpec.{TokSpec}
use Rattle.lwkt_base.specs.declared.owners.Owner.{Owner}
use Rattle.lwkt_base.specs.declared.owners.Owner.TheVariants.{Rest, Out, With, Back}
use Rattle.lwkt_base.specs.declared.owners.MsgEnd.{MsgEnd}
use Rattle.lwkt_base.specs.declared.limits.TheConstants.{RECORD_LIMIT}
use Rattle.lwkt_core.specs.Events.{cpu_of}
use Rattle.lwkt_core.specs.declared.events.Event.{Event}
use Rattle.lwkt_core.specs.declared.events.Event.TheVariants.{Load, Take, Share, Again, Mark, GiveOne, GiveClean, GiveWritten, Read, Write, ReadBlob, WriteBlob, Send, TakeMsg, DropMsg, Reply, Reap, Abort}
use Rattle.lwkt_report.specs.declared.closings.Closing.{Closing}
use Rattle.lwkt_report.specs.declared.closings.TokenLine.{TokenLine}
use Rattle.lwkt_script.specs.declared.scripts.Script.{Script}

-- what stands before the part of a number in a list: a comma, but before the first
abbrev pub comma_at : ℕ → List ℕ
comma_at n = if n == 0 then [] else codes ","

-- the same, where each part has a line of its own
abbrev pub line_at : ℕ → List ℕ
line_at n = if n == 0 then codes "\n" else codes ",\n"

-- the texts of some parts one after another, each with a text before it that depends on its number; the first has number n
abbrev pub parted : {A : Type 0} → (ℕ → List ℕ) → (A → List ℕ) → ℕ → List A → List ℕ
parted before text n [] = []
parted before text n (x ∷ xs) = before n ++ text x ++ parted before text (n + 1) xs

-- the name of a member, and what stands between it and its value
unfoldable pub member_name : List ℕ → List ℕ
member_name name = codes "\"" ++ name ++ codes "\":"

-- numbers as a list
unfoldable pub list_text : List ℕ → List ℕ
list_text numbers = codes "[" ++ parted comma_at decimal 0 numbers ++ codes "]"

-- a number behind a comma
abbrev pub comma : ℕ → List ℕ
comma n = codes "," ++ decimal n

-- the digits that stand for the bytes of a record past the 64th, of which there is one at most
abbrev pub past_text : List ℕ → List ℕ
past_text blob = if nat_lt RECORD_LIMIT (length blob) then codes "00" else []

-- a record: two digits for each of its bytes
unfoldable pub blob_text : List ℕ → List ℕ
blob_text blob = codes "\"" ++ hex_text (take 64 blob) ++ past_text blob ++ codes "\""

-- the name of a law
abbrev pub law_text : Law → List ℕ
law_text Any = codes "any"
law_text Sum = codes "sum"
law_text Order = codes "order"
law_text Cap = codes "cap"
law_text Tally = codes "tally"
law_text Len = codes "len"

-- the record of a token, where it has one
abbrev pub guard_text : Option (List ℕ) → List ℕ
guard_text None = []
guard_text (Some blob) = codes "," ++ member_name (codes "record") ++ blob_text blob

-- the cells of a token, its law, the law's parameter, and its generation
unfoldable pub cells_text : List ℕ → List ℕ
cells_text cells = member_name (codes "cells") ++ list_text cells ++ codes ","

unfoldable pub law_member_text : Law → List ℕ
law_member_text law = member_name (codes "law") ++ codes "\"" ++ law_text law ++ codes "\","

unfoldable pub param_text : ℕ → List ℕ
param_text param = member_name (codes "param") ++ decimal param ++ codes ","

unfoldable pub gen_text : ℕ → List ℕ
gen_text generation = member_name (codes "gen") ++ decimal generation

-- a token of the opening
abbrev pub token_text : TokSpec → List ℕ
token_text t =
    codes "{" ++ cells_text t.cells ++ law_member_text t.law ++ param_text t.param ++ gen_text t.generation ++ guard_text t.blob ++ codes "}"

-- a message of the opening
abbrev pub message_text : MsgSpec → List ℕ
message_text m =
    codes "{\"of\":[" ++ decimal m.origin.cpu.0 ++ codes "," ++ decimal m.origin.thread ++ codes "],\"round\":" ++ decimal m.round ++ codes "}"

-- the word of an event
abbrev pub word_of_event : Event → List ℕ
word_of_event (Load cpu tok) = codes "load"
word_of_event (Take cpu tok) = codes "take"
word_of_event (Share cpu tok) = codes "share"
word_of_event (Again cpu tok) = codes "again"
word_of_event (Mark cpu tok) = codes "mark"
word_of_event (GiveOne cpu tok) = codes "give_one"
word_of_event (GiveClean cpu tok) = codes "give_clean"
word_of_event (GiveWritten cpu tok section) = codes "give_written"
word_of_event (Read cpu tok cell value) = codes "read"
word_of_event (Write cpu tok cell value) = codes "write"
word_of_event (ReadBlob cpu tok blob) = codes "read_record"
word_of_event (WriteBlob cpu tok blob) = codes "write_record"
word_of_event (Send cpu msg to round) = codes "send"
word_of_event (TakeMsg cpu msg round) = codes "take_msg"
word_of_event (DropMsg cpu msg) = codes "drop"
word_of_event (Reply cpu msg) = codes "reply"
word_of_event (Reap cpu msg) = codes "reap"
word_of_event (Abort cpu msg) = codes "abort"

-- what an event is at, and what else it says; of a written give not its section
abbrev pub rest_text : Event → List ℕ
rest_text (Load cpu tok) = comma tok.0
rest_text (Take cpu tok) = comma tok.0
rest_text (Share cpu tok) = comma tok.0
rest_text (Again cpu tok) = comma tok.0
rest_text (Mark cpu tok) = comma tok.0
rest_text (GiveOne cpu tok) = comma tok.0
rest_text (GiveClean cpu tok) = comma tok.0
rest_text (GiveWritten cpu tok section) = comma tok.0
rest_text (Read cpu tok cell value) = comma tok.0 ++ comma cell ++ comma value
rest_text (Write cpu tok cell value) = comma tok.0 ++ comma cell ++ comma value
rest_text (ReadBlob cpu tok blob) = comma tok.0 ++ codes "," ++ blob_text blob
rest_text (WriteBlob cpu tok blob) = comma tok.0 ++ codes "," ++ blob_text blob
rest_text (Send cpu msg to round) = comma msg.0 ++ comma to.0 ++ comma round
rest_text (TakeMsg cpu msg round) = comma msg.0 ++ comma round
rest_text (DropMsg cpu msg) = comma msg.0
rest_text (Reply cpu msg) = comma msg.0
rest_text (Reap cpu msg) = comma msg.0
rest_text (Abort cpu msg) = comma msg.0

-- an event
abbrev pub event_text : Event → List ℕ
event_text e = codes "[\"" ++ word_of_event e ++ codes "\"," ++ decimal (cpu_of e) ++ rest_text e ++ codes "]"

-- where a message is: a word, and its processors
abbrev pub owner_json : Owner → List ℕ
owner_json (Rest origin) = codes "[\"rest\"" ++ comma origin.0
owner_json (Out origin target) = codes "[\"out\"" ++ comma origin.0 ++ comma target.0
owner_json (With origin target) = codes "[\"with\"" ++ comma origin.0 ++ comma target.0
owner_json (Back origin target) = codes "[\"back\"" ++ comma origin.0 ++ comma target.0

-- where a message is at the close, and its round
abbrev pub end_text : MsgEnd → List ℕ
end_text e = owner_json e.state ++ comma e.round ++ codes "]"

-- what a processor has added, where the token's law is Tally
abbrev pub tallies_text : Option (List ℕ) → List ℕ
tallies_text None = codes "[]"
tallies_text (Some tallies) = list_text tallies

-- a record of the close, or null
abbrev pub last_blob_text : Option (List ℕ) → List ℕ
last_blob_text None = codes "null"
last_blob_text (Some blob) = blob_text blob

-- of a token at the close: its row, its generation, its tallies, its record
abbrev pub row_text : TokenLine → List ℕ
row_text line = list_text line.cells

abbrev pub generation_text : TokenLine → List ℕ
generation_text line = decimal line.generation

abbrev pub tally_text : TokenLine → List ℕ
tally_text line = tallies_text line.tallies

abbrev pub last_record_text : TokenLine → List ℕ
last_record_text line = last_blob_text line.blob

-- whether a token has a record
abbrev pub has_record : TokenLine → Bool
has_record line = is_some line.blob

-- the list of the records of the close
unfoldable pub listed_text : List TokenLine → List ℕ
listed_text lines = member_name (codes "records") ++ codes "[" ++ parted comma_at last_record_text 0 lines ++ codes "],\n"

-- the records of the close, where a token has one
abbrev pub records_text : List TokenLine → List ℕ
records_text lines = if list_any has_record lines then listed_text lines else []

-- the version, and how many processors there are
unfoldable pub cpus_text : ℕ → List ℕ
cpus_text cpus = member_name (codes "version") ++ codes "1," ++ member_name (codes "cpus") ++ decimal cpus ++ codes ",\n"

-- the tokens of the opening
unfoldable pub tokens_text : List TokSpec → List ℕ
tokens_text tokens = member_name (codes "tokens") ++ codes "[" ++ parted line_at token_text 0 tokens ++ codes "],\n"

-- the messages of the opening
unfoldable pub messages_text : List MsgSpec → List ℕ
messages_text messages = member_name (codes "messages") ++ codes "[" ++ parted line_at message_text 0 messages ++ codes "],\n"

-- the events
unfoldable pub events_text : List Event → List ℕ
events_text events = member_name (codes "events") ++ codes "[" ++ parted line_at event_text 0 events ++ codes "],\n"

-- the rows, the generations and the tallies of the close
unfoldable pub rows_text : List TokenLine → List ℕ
rows_text lines = member_name (codes "rows") ++ codes "[" ++ parted comma_at row_text 0 lines ++ codes "],\n"

unfoldable pub generations_text : List TokenLine → List ℕ
generations_text lines = member_name (codes "gens") ++ codes "[" ++ parted comma_at generation_text 0 lines ++ codes "],\n"

unfoldable pub all_tallies_text : List TokenLine → List ℕ
all_tallies_text lines = member_name (codes "tallies") ++ codes "[" ++ parted comma_at tally_text 0 lines ++ codes "],\n"

-- where the messages are at the close
unfoldable pub ends_text : List MsgEnd → List ℕ
ends_text ends = member_name (codes "messages") ++ codes "[" ++ parted line_at end_text 0 ends ++ codes "]"

-- the closing values
unfoldable pub closing_text : Closing → List ℕ
closing_text closing =
    member_name (codes "last") ++ codes "{" ++ rows_text closing.tokens.items ++ generations_text closing.tokens.items ++ all_tallies_text closing.tokens.items ++ records_text closing.tokens.items ++ ends_text closing.messages.items ++ codes "}"

-- a trace: the opening of a script, events, and closing values
unfoldable pub trace_text : Script → List Event → Closing → List ℕ
trace_text script events closing =
    codes "{" ++ cpus_text script.cpus ++ tokens_text script.tokens ++ messages_text script.messages ++ events_text events ++ closing_text closing ++ codes "}\n"

-- the same text up to its events, and behind them, where the closing values may be left out
unfoldable pub front_text : ℕ → List TokSpec → List MsgSpec → List ℕ
front_text cpus tokens messages = codes "{" ++ cpus_text cpus ++ tokens_text tokens ++ messages_text messages ++ member_name (codes "events") ++ codes "["

-- the closing values, or null where there are none
abbrev pub last_text : Option Closing → List ℕ
last_text None = member_name (codes "last") ++ codes "null"
last_text (Some closing) = closing_text closing

unfoldable pub back_text : Option Closing → List ℕ
back_text last = codes "],\n" ++ last_text last ++ codes "}\n"
