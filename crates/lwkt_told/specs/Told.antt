-- The report of a run in the names of its text: the values are those of the report in numbers, line by line (own).
use Rattle.std.specs.Prelude.{ℕ, ◌-◌, ◌==◌, if◌then◌else◌, Bool, true, false, List, [], ◌∷◌, ◌++◌, slice_get, codes, Option, Some, None, find}
use Rattle.std.specs.Fmt.{decimal}
use Rattle.std.specs.List.{flat_map}
use Rattle.std.specs.Option.{option_map_or}
use Rattle.lwkt_base.specs.declared.entries.Entry.{Entry}
use Rattle.lwkt_base.specs.declared.entries.Entry.TheVariants.{Value, Bytes, Aborted, Request, Reply, NoMessage, Dropped, Refused, Failed}
use Rattle.lwkt_base.specs.declared.faults.Fault.{Fault}
use Rattle.lwkt_base.specs.declared.names.MsgId.{MsgId}
use Rattle.lwkt_base.specs.declared.names.Ref.{Ref}
use Rattle.lwkt_base.specs.declared.names.TokId.{TokId}
use Rattle.lwkt_base.specs.declared.owners.MsgEnd.{MsgEnd}
use Rattle.lwkt_base.specs.declared.owners.Owner.{Owner}
use Rattle.lwkt_base.specs.declared.owners.Owner.TheVariants.{Rest, Out, With, Back}
use Rattle.lwkt_base.specs.declared.records.Call.{Call}
use Rattle.lwkt_base.specs.declared.threads.ThreadLine.{ThreadLine}
use Rattle.lwkt_base.specs.declared.threads.ThreadState.{ThreadState}
use Rattle.lwkt_base.specs.declared.threads.ThreadState.TheVariants.{Ready, Waiting, Running, Exited, Faulted}
use Rattle.lwkt_base.specs.Fault.{fault_message, number_of}
use Rattle.lwkt_code.specs.declared.steps.Step.{Step}
use Rattle.lwkt_report.specs.declared.closings.Closing.{Closing}
use Rattle.lwkt_report.specs.declared.closings.TokenLine.{TokenLine}
use Rattle.lwkt_report.specs.declared.closings.Verdict.{Verdict}
use Rattle.lwkt_report.specs.declared.closings.Verdict.TheVariants.{Closed, Lawful, Unlawful}
use Rattle.lwkt_report.specs.Report.{line_feed, numbered_lines, record_text, report_text}
use Rattle.lwkt_script.specs.declared.scripts.Script.{Script}
use Rattle.lwkt_text.specs.declared.tables.Names.{Names}
use Rattle.lwkt_text.specs.Naming.{cells_of}
use Rattle.lwkt_told.specs.declared.labels.Cell.{Cell}
use Rattle.lwkt_told.specs.declared.logs.TheConstants.{REFUSALS}
use Rattle.lwkt_told.specs.Called.{called, cell_called, in_column, program_of, ref_part, thread_called, width_of}
use Rattle.lwkt_told.specs.Circles.{stuck_lines}
use Rattle.lwkt_told.specs.Labels.{label_of}

-- what parts the columns of a line
abbrev pub gap : List ℕ
gap = codes "   "

-- ---- tokens

-- ` CELL=VALUE`
abbrev pub cell_part : List (List ℕ) → ℕ → ℕ → List ℕ
cell_part cells cell value = codes " " ++ called cells cell ++ codes "=" ++ decimal value

-- the cells of a token, with their values
abbrev pub cells_part : List (List ℕ) → List ℕ → List ℕ
cells_part cells [] = []
cells_part cells (value ∷ values) = codes "  " ++ numbered_lines (cell_part cells) 0 (value ∷ values)

-- ` cpuP=SUM`
abbrev pub sum_part : ℕ → ℕ → List ℕ
sum_part cpu sum = codes " cpu" ++ decimal cpu ++ codes "=" ++ decimal sum

-- of a Tally token what each processor has added
abbrev pub tallies_part : Option (List ℕ) → List ℕ
tallies_part None = []
tallies_part (Some sums) = gap ++ codes "tally" ++ numbered_lines sum_part 0 sums

-- the record of a token that has one
abbrev pub record_part : Option (List ℕ) → List ℕ
record_part None = []
record_part (Some blob) = gap ++ codes "record " ++ record_text blob

-- `TOKEN   gen G   CELL=VALUE ..`, and its tallies and its record
abbrev pub token_told : ℕ → Names → ℕ → TokenLine → List ℕ
token_told width names tok line =
    in_column width (called names.tokens tok) ++ codes "   gen " ++ decimal line.generation ++ cells_part (cells_of names (record { 0 = tok })) line.cells ++ tallies_part line.tallies ++ record_part line.blob ++ line_feed

-- ---- messages

-- where a message is
abbrev pub owner_told : Owner → List ℕ
owner_told (Rest origin) = codes "at rest"
owner_told (Out origin target) = codes "out: sent, and not taken"
owner_told (With origin target) = codes "with its receiver: taken, and not answered"
owner_told (Back origin target) = codes "back: answered, and not taken back"

-- `MESSAGE   round R   PLACE`
abbrev pub message_told : ℕ → Names → ℕ → MsgEnd → List ℕ
message_told width names message end =
    in_column width (called names.messages message) ++ gap ++ codes "round " ++ decimal end.round ++ gap ++ owner_told end.state ++ line_feed

-- ---- threads

-- how a thread stands
abbrev pub state_told : ThreadState → List ℕ
state_told Ready = codes "ready"
state_told Waiting = codes "waiting"
state_told Running = codes "running"
state_told Exited = codes "exited"
state_told (Faulted fault) = codes "faulted " ++ decimal (number_of fault) ++ codes " (" ++ fault_message fault ++ codes ")"

-- that a thread is a service, which need not end
abbrev pub service_told : Bool → List ℕ
service_told false = []
service_told true = codes " (a service)"

-- the list of a thread
abbrev pub list_part : Names → List Ref → List ℕ
list_part names [] = []
list_part names (r ∷ refs) = gap ++ codes "list" ++ numbered_lines (ref_part names) 0 (r ∷ refs)

-- what stands before an entry, by the entry before it: values that follow each other are said in one
abbrev pub lead : Option Entry → Entry → List ℕ
lead None (Value value) = gap ++ codes "saw "
lead None _ = gap
lead (Some (Value before)) (Value value) = codes " "
lead (Some _) (Value value) = codes ", saw "
lead (Some _) _ = codes ", "

-- the cell that a value was read from, if it is known
abbrev pub label_part : Names → Option Cell → List ℕ
label_part names None = []
label_part names (Some place) = cell_called names place.tok place.number ++ codes "="

-- a word, a message, and what it asks for
abbrev pub call_told : Names → List ℕ → MsgId → Call → List ℕ
call_told names word message call = word ++ called names.messages message.0 ++ codes " op " ++ decimal call.op ++ codes " arg " ++ decimal call.arg

-- a reply: its message, its error and its result
abbrev pub reply_told : Names → MsgId → ℕ → ℕ → List ℕ
reply_told names message error outcome = codes "answered " ++ called names.messages message.0 ++ codes " error " ++ decimal error ++ codes " result " ++ decimal outcome

-- the fault of a number, of those for which a step may be refused
abbrev pub refusal_numbered : ℕ → Option Fault
refusal_numbered number = find (λ fault. number_of fault == number) REFUSALS

-- a refusal, with the message of its fault
abbrev pub refusal_told : ℕ → List ℕ
refusal_told number = codes "refused " ++ decimal number ++ option_map_or (λ fault. codes " (" ++ fault_message fault ++ codes ")") (refusal_numbered number) []

-- an entry of a log, in the words of claims; a value with the cell that it was read from, if that is known
abbrev pub entry_told : Names → Option Cell → Entry → List ℕ
entry_told names label (Value value) = label_part names label ++ decimal value
entry_told names label (Bytes blob) = codes "found " ++ record_text blob
entry_told names label (Aborted false) = codes "aborted 0"
entry_told names label (Aborted true) = codes "aborted 1"
entry_told names label (Request message call) = call_told names (codes "took ") message call
entry_told names label (Reply message error outcome) = reply_told names message error outcome
entry_told names label NoMessage = codes "empty"
entry_told names label (Dropped message call) = call_told names (codes "lost ") message call
entry_told names label (Refused number) = refusal_told number
entry_told names label (Failed number) = codes "assert " ++ decimal number ++ codes " failed"

-- the entry before entry i
abbrev pub before_entry : List Entry → ℕ → Option Entry
before_entry log i = if i == 0 then None else slice_get log (i - 1)

-- entry i of a log, and what stands before it
abbrev pub entry_part : Names → List Step → List Entry → ℕ → Entry → List ℕ
entry_part names program log i entry = lead (before_entry log i) entry ++ entry_told names (label_of program log i) entry

-- all entries of a log
abbrev pub log_part : Names → List Step → List Entry → List ℕ
log_part names program log = numbered_lines (entry_part names program log) 0 log

-- `THREAD   STATE   list TOKEN ..   ENTRY, ..`
abbrev pub thread_told : ℕ → Names → Script → ThreadLine → List ℕ
thread_told width names script line =
    in_column width (thread_called names line.id) ++ gap ++ state_told line.state ++ service_told line.service ++ list_part names line.list ++ log_part names (program_of names script line.id) line.log ++ line_feed

-- ---- what is said of the whole run

-- what the check of the run came to
abbrev pub verdict_told : Verdict → List ℕ
verdict_told Closed = codes "the run is closed: the sections of each token make one chain" ++ line_feed
verdict_told Lawful = codes "the run is lawful: checked against the model" ++ line_feed
verdict_told (Unlawful index) = codes "the run is unlawful at " ++ decimal index ++ codes ": not a run of the model" ++ line_feed

-- the tokens, the messages, the threads
unfoldable pub told_front : Names → Script → Closing → List ℕ
told_front names script closing =
    numbered_lines (token_told (width_of names) names) 0 closing.tokens.items ++ numbered_lines (message_told (width_of names) names) 0 closing.messages.items ++ flat_map (thread_told (width_of names) names script) closing.threads.items

-- the same, what the check of the run came to, and, if the run is stuck, why
unfoldable pub told_text : Names → Script → Closing → List ℕ
told_text names script closing = told_front names script closing ++ verdict_told closing.verdict ++ stuck_lines names script closing.threads.items

-- the report in these names, or in numbers
abbrev pub named_report : Option Names → Script → Closing → List ℕ
named_report None script closing = report_text closing
named_report (Some names) script closing = told_text names script closing
