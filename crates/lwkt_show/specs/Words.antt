-- The words of asks and answers (own).
use Rattle.std.specs.Prelude.{ℕ, ◌+◌, ◌==◌, ◌&&◌, ◌||◌, nat_le, nat_lt, Bool, not, List, [], ◌++◌, length, take, codes, if◌then◌else◌, Option, None, Some}
use Rattle.std.specs.Fmt.{decimal}
use Rattle.std.specs.List.{list_all, flat_map}
use Rattle.lwkt_base.specs.Fault.{number_of, fault_message}
use Rattle.lwkt_base.specs.Hex.{hex_text}
use Rattle.lwkt_base.specs.Step.{step_of, word_of}
use Rattle.lwkt_base.specs.declared.asks.Answer.{Answer}
use Rattle.lwkt_base.specs.declared.asks.Answer.TheVariants.{Begin, Done, Value, Bytes, Dropped, Got, NoMsg, Refused}
use Rattle.lwkt_base.specs.declared.asks.Ask.{Ask}
use Rattle.lwkt_base.specs.declared.asks.Item.{Item}
use Rattle.lwkt_base.specs.declared.asks.Item.TheVariants.{Request, Answered}
use Rattle.lwkt_base.specs.declared.faults.Fault.{Fault}
use Rattle.lwkt_base.specs.declared.names.MsgId.{MsgId}
use Rattle.lwkt_base.specs.declared.names.ThreadId.{ThreadId}
use Rattle.lwkt_base.specs.declared.records.Flags.{Flags}
use Rattle.lwkt_base.specs.declared.records.Rec.{Rec}
use Rattle.lwkt_base.specs.declared.steps.Part.{Part}
use Rattle.lwkt_base.specs.declared.steps.Part.TheVariants as parts
use Rattle.lwkt_base.specs.declared.limits.TheConstants.{RECORD_LIMIT}
use Rattle.lwkt_report.specs.Report.{record_text}
use Rattle.lwkt_text.specs.declared.tables.Names.{Names}
use Rattle.lwkt_told.specs.Called.{called, cell_called, thread_called}
use Rattle.lwkt_trace.specs.Written.{comma, blob_text}

-- a thread by its processor and its number: `1.0`
abbrev pub thread_text : ThreadId → List ℕ
thread_text id = decimal id.cpu.0 ++ codes "." ++ decimal id.thread

-- a fault by its number and its message: `23, token busy`
abbrev pub fault_text : Fault → List ℕ
fault_text fault = decimal (number_of fault) ++ codes ", " ++ fault_message fault

-- the word of an ask, as in a script
abbrev pub ask_word : Ask → List ℕ
ask_word ask = word_of (step_of ask).0

-- the flags of a send as a number
abbrev pub flags_number : Flags → ℕ
flags_number flags = (if flags.dropable then 1 else 0) + (if flags.abortable then 2 else 0) + (if flags.priority then 4 else 0)

-- a part of a step after a comma, each of its numbers after one
abbrev pub part_text : Part → List ℕ
part_text (parts.Token tok) = comma tok.0
part_text (parts.Cell tok cell) = comma tok.0 ++ comma cell
part_text (parts.Value value) = comma value
part_text (parts.Record blob) = codes "," ++ blob_text blob
part_text (parts.Message message) = comma message.0
part_text (parts.Target to) = comma to.cpu.0 ++ comma to.thread
part_text (parts.Call call) = comma call.op ++ comma call.arg
part_text (parts.Flags flags) = comma (flags_number flags)
part_text (parts.Code error) = comma error
part_text (parts.Outcome outcome) = comma outcome

-- the parts of a step, one after another
abbrev pub parts_text : List Part → List ℕ
parts_text found = flat_map part_text found

-- what stands behind the word of an ask
abbrev pub ask_parts : Ask → List ℕ
ask_parts ask = parts_text (step_of ask).1

-- an ask as the step of a script that stands for it: `["add",0,5]`
abbrev pub ask_text : Ask → List ℕ
ask_text ask = codes "[\"" ++ ask_word ask ++ codes "\"" ++ ask_parts ask ++ codes "]"

-- ---- in the names of a text, if some are given, or else in numbers

-- a token: its name, or its number
abbrev pub token_said : Option Names → ℕ → List ℕ
token_said None tok = decimal tok
token_said (Some names) tok = called names.tokens tok

-- a message: its name, or its number
abbrev pub message_said : Option Names → ℕ → List ℕ
message_said None message = decimal message
message_said (Some names) message = called names.messages message

-- a thread: its name, or its processor and its number
abbrev pub thread_said : Option Names → ThreadId → List ℕ
thread_said None id = thread_text id
thread_said (Some names) id = thread_called names id

-- a number behind a word, or nothing for 0
abbrev pub keyed_text : List ℕ → ℕ → List ℕ
keyed_text key n = if n == 0 then [] else key ++ decimal n

-- a word if it is so
abbrev pub word_if : Bool → List ℕ → List ℕ
word_if is word = if is then word else []

-- what a message's origin may do with it
abbrev pub flags_told : Flags → List ℕ
flags_told flags = word_if flags.dropable (codes ", dropable") ++ word_if flags.abortable (codes ", abortable") ++ word_if flags.priority (codes ", priority")

-- a part of a step, as it stands in a text
abbrev pub part_told : Names → Part → List ℕ
part_told names (parts.Token tok) = codes " " ++ called names.tokens tok.0
part_told names (parts.Cell tok cell) = codes " " ++ cell_called names tok cell
part_told names (parts.Value value) = codes " " ++ decimal value
part_told names (parts.Record blob) = codes " " ++ record_text blob
part_told names (parts.Message message) = codes " " ++ called names.messages message.0
part_told names (parts.Target to) = codes " -> " ++ thread_called names to
part_told names (parts.Call call) = keyed_text (codes ", op ") call.op ++ keyed_text (codes ", arg ") call.arg
part_told names (parts.Flags flags) = flags_told flags
part_told names (parts.Code error) = codes " " ++ decimal error
part_told names (parts.Outcome outcome) = codes " " ++ decimal outcome

-- an ask as the step of a text that stands for it: `write accounts.from 2`
abbrev pub ask_told : Names → Ask → List ℕ
ask_told names ask = ask_word ask ++ flat_map (part_told names) (step_of ask).1

-- an ask, as the step of a text or of a script
abbrev pub ask_said : Option Names → Ask → List ℕ
ask_said None ask = ask_text ask
ask_said (Some names) ask = ask_told names ask

-- what came to a port
abbrev pub item_text : Option Names → Item → List ℕ
item_text names (Request message call) = codes "the request message " ++ message_said names message.0 ++ codes ", op " ++ decimal call.op ++ codes ", arg " ++ decimal call.arg
item_text names (Answered message error outcome) = codes "the reply to message " ++ message_said names message.0 ++ codes ", error " ++ decimal error ++ codes ", result " ++ decimal outcome

-- whether a byte is a character that is shown as it is, and has no meaning of its own in a line or a picture
abbrev pub is_shown : ℕ → Bool
is_shown byte = nat_le 32 byte && nat_lt byte 127 && not (byte == 34 || byte == 38 || byte == 60 || byte == 62)

-- bytes as text in quotes where all of them are shown as they are, else two digits for each; of more than 24 the first 24
abbrev pub bytes_words : List ℕ → List ℕ
bytes_words bytes = if list_all is_shown bytes then codes "'" ++ take 24 bytes ++ codes "'" else hex_text (take 24 bytes)

-- how many bytes a record has, where not all are shown
abbrev pub cut_words : List ℕ → List ℕ
cut_words blob = if nat_lt 24 (length blob) then codes ".., " ++ decimal (length blob) ++ codes " bytes" else []

-- a record that has bytes, of which at most 64 are kept
abbrev pub full_words : List ℕ → List ℕ
full_words blob = codes "record " ++ bytes_words (take RECORD_LIMIT blob) ++ cut_words blob

-- a record: `record 'hello'`
abbrev pub record_words : List ℕ → List ℕ
record_words blob = if length blob == 0 then codes "an empty record" else full_words blob

-- a message that was taken back
abbrev pub dropped_text : Option Names → MsgId → Rec → List ℕ
dropped_text names message rec = codes "message " ++ message_said names message.0 ++ codes " taken back, op " ++ decimal rec.op ++ codes ", arg " ++ decimal rec.arg

-- a refusal
abbrev pub refused_text : Fault → List ℕ
refused_text fault = codes "refused " ++ fault_text fault

-- an answer: `done`, `value 15`, `refused 23, token busy`
abbrev pub answer_text : Option Names → Answer → List ℕ
answer_text names Begin = codes "not asked before"
answer_text names Done = codes "done"
answer_text names (Value value) = codes "value " ++ decimal value
answer_text names (Bytes blob) = record_words blob
answer_text names (Dropped message rec) = dropped_text names message rec
answer_text names (Got item) = item_text names item
answer_text names NoMsg = codes "nothing at the port"
answer_text names (Refused fault) = refused_text fault
