-- What the program writes of a script that it read (own).
use Rattle.std.specs.Prelude.{◌≡◌, ◌⊎◌, ◌||◌, ℕ, List, Bool, true, false, IsTrue, Option, Some, Result, Ok, Err, OnOk}
use Rattle.std.specs.Option.{option_map}
use Rattle.std.specs.Io.KnownBytes.{Appends, Keeps}
use Rattle.lwkt_report.specs.declared.complaints.Complaint.TheVariants.{Fault as ComplaintFault, Stream as ComplaintStream}
use Rattle.lwkt_report.specs.declared.complaints.Program.TheVariants.{Run as RunProgram}
use Rattle.lwkt_report.specs.Complaint.{fault_line, IsSaid}
use Rattle.lwkt_report.specs.Stream.{AppendsFront}
use Rattle.lwkt_request.specs.declared.requests.Request.{Request}
use Rattle.lwkt_request.specs.declared.requests.Task.{Task}
use Rattle.lwkt_request.specs.declared.requests.Task.TheVariants.{Run, Show, Check, Text, Explore}
use Rattle.lwkt_request.specs.declared.requests.Wording.TheVariants.{OldName}
use Rattle.lwkt_run.specs.Modes.{RunsJsonAs}
use Rattle.lwkt_run.specs.Run.{AreBytesRead}
use Rattle.lwkt_text.specs.declared.inputs.Input.{Input}
use Rattle.lwkt_text.specs.declared.inputs.Unread.{Unread}
use Rattle.lwkt_text.specs.Inputs.{input_of, is_text, names_text}
use Rattle.lwkt.specs.declared.endings.Ending.{Ending}
use Rattle.lwkt.specs.declared.failures.Failure.{Failure}
use Rattle.lwkt.specs.declared.failures.Failure.TheVariants.{Fault, Past, Long, Stream}
use Rattle.lwkt.specs.Failing.{IsFailureOf, ending_of}
use Rattle.lwkt.specs.Making.{IsMadeOf, mode_of}

-- a text is written whole, and its status stands; or the sink fails, and a front of it stands
abbrev pub Writes : List ℕ → ℕ → Bool → Option (List ℕ) → Option (List ℕ) → Result ℕ Failure → Type 0
Writes text status failed old new (Ok answer) = (answer ≡ status) × Appends old new text
Writes text status failed old new (Err Stream) = IsTrue failed × AppendsFront old new text
Writes text status failed old new (Err _) = ⊥

-- what is written of what was read, by the answer: what the task makes of it; or nothing, and why; or, if a stream failed, nothing or a
-- front of what it makes
abbrev pub Answers : Task → Option (List ℕ) → Result Input Unread → Option (List ℕ) → Option (List ℕ) → Result ℕ Failure → Type 0
Answers task order read old new (Ok status) = (text : List ℕ) × (IsMadeOf task order read text status × Appends old new text)
Answers task order read old new (Err (Fault fault)) = Keeps old new × IsFailureOf task order read (Fault fault)
Answers task order read old new (Err Past) = Keeps old new × IsFailureOf task order read Past
Answers task order read old new (Err Long) = Keeps old new × IsFailureOf task order read Long
Answers task order read old new (Err Stream) = Keeps old new ⊎ ((text : List ℕ) × ((status : ℕ) × (IsMadeOf task order read text status × AppendsFront old new text)))

-- the same of what was left to read, if it comes from a file of this name
abbrev pub AnswersRead : Task → Option (List ℕ) → Option (List ℕ) → Option (List ℕ) → Option (List ℕ) → Option (List ℕ) → Result ℕ Failure → Type 0
AnswersRead task order name left old new answer = (bytes : List ℕ) × (AreBytesRead left bytes × Answers task order (input_of name bytes) old new answer)

-- the order that a request names
abbrev pub order_of : Request → Option (List ℕ)
order_of request = option_map (λ order. order.items) request.order

-- whether the line of a fault stands in place of a report: only by the name `lwkt_run`
abbrev pub complains : Task → Bool
complains (Run on_threads OldName) = true
complains (Run on_threads _) = false
complains _ = false

-- what is written after that: by the name `lwkt_run` the line of the fault, else nothing
abbrev pub SaysAfter : Bool → Bool → Option (List ℕ) → Option (List ℕ) → Result ℕ Failure → Type 0
SaysAfter true failed old new (Err (Fault fault)) = IsSaid failed old new (fault_line RunProgram (ComplaintFault fault))
SaysAfter true failed old new (Err Stream) = IsSaid failed old new (fault_line RunProgram ComplaintStream)
SaysAfter _ failed old new _ = Keeps old new

-- what the program does for a task that takes a script: it answers, writes no more than that, and ends as the answer says; a
-- stream is blamed only if one has failed, and a whole text is flushed
pub record Performs (task : Task) (order name : Option (List ℕ)) (source_failed sink_failed : Bool) (flushed : Type 0) (left old new : Option (List ℕ)) (ending : Ending) : Type 0 where
  pub answer : Result ℕ Failure
  pub mid : Option (List ℕ)
  pub answers : AnswersRead task order name left old mid answer
  pub says : SaysAfter (complains task) sink_failed mid new answer
  pub blames : answer ≡ Err Stream → IsTrue source_failed ⊎ IsTrue sink_failed
  pub flushes : OnOk answer flushed
  pub is_ending : ending ≡ ending_of answer

-- bytes from a file of this name are taken for JSON
abbrev pub IsJson : Option (List ℕ) → List ℕ → Type 0
IsJson name bytes = (names_text name || is_text bytes) ≡ false

-- what the program does by the name `lwkt_run`: with JSON exactly what `run_program` does
abbrev pub RunsByOldName : Bool → Option (List ℕ) → Bool → Bool → Option (List ℕ) → Option (List ℕ) → Option (List ℕ) → ℕ → Type 0
RunsByOldName on_threads name source_failed sink_failed left old new status = (bytes : List ℕ) × (AreBytesRead left bytes × (IsJson name bytes → RunsJsonAs (mode_of on_threads) source_failed sink_failed (Some bytes) old new status))
