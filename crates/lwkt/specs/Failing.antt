-- Why nothing is made of what was read, and how the program ends then (own).
use Rattle.std.specs.Prelude.{◌≡◌, ◌⊎◌, ℕ, List, Bool, true, false, Option, Result, Ok, Err}
use Rattle.lwkt_base.specs.declared.faults.Fault.{Fault as Refusal}
use Rattle.lwkt_base.specs.declared.faults.Fault.TheVariants.{Script as ScriptFault, Memory, Unlawful}
use Rattle.lwkt_explore.specs.Outcomes.{RefusesSearch}
use Rattle.lwkt_request.specs.declared.requests.Form.{Form}
use Rattle.lwkt_request.specs.declared.requests.Form.TheVariants as form
use Rattle.lwkt_request.specs.declared.requests.Task.{Task}
use Rattle.lwkt_request.specs.declared.requests.Task.TheVariants.{Run, Show, Check, Text, Explore}
use Rattle.lwkt_run.specs.Run.{DeclinesRun}
use Rattle.lwkt_script.specs.declared.scripts.Script.{Script}
use Rattle.lwkt_show.specs.declared.options.Options.{Options}
use Rattle.lwkt_show.specs.Showing.{DeclinesShow, EndsBeforeChosen}
use Rattle.lwkt_text.specs.declared.inputs.Input.{Input}
use Rattle.lwkt_text.specs.declared.inputs.Unread.{Unread}
use Rattle.lwkt_text.specs.declared.inputs.Unread.TheVariants.{Json, Wrongs}
use Rattle.lwkt_text.specs.declared.wrongs.Wrong.{Wrong}
use Rattle.lwkt.specs.declared.endings.Ending.{Ending}
use Rattle.lwkt.specs.declared.endings.Ending.TheVariants as endings
use Rattle.lwkt.specs.declared.failures.Failure.{Failure}
use Rattle.lwkt.specs.declared.failures.Failure.TheVariants.{Fault, Past, Long, Stream}

-- a fault, of which this holds
abbrev pub IsFault : (Refusal → Type 0) → Failure → Type 0
IsFault P (Fault fault) = P fault
IsFault P _ = ⊥

-- why a run isn't shown: its script's opening is refused, or its order names a processor that isn't there; or it ended before the
-- range
abbrev pub DeclinesShown : Bool → Options → Option (List ℕ) → Script → Failure → Type 0
DeclinesShown false options order script (Fault fault) = DeclinesShow script order fault
DeclinesShown false options order script Past = EndsBeforeChosen options order script
DeclinesShown true options order script (Fault fault) = DeclinesRun script fault
DeclinesShown _ options order script _ = ⊥

-- want of memory alone
abbrev pub IsMemory : Refusal → Type 0
IsMemory (Memory refused) = Unit {0}
IsMemory _ = ⊥

-- why a script isn't written in a form
abbrev pub DeclinesWritten : Failure → Type 0
DeclinesWritten (Fault fault) = IsMemory fault
DeclinesWritten Long = Unit {0}
DeclinesWritten _ = ⊥

abbrev pub DeclinesForm : Form → Script → Failure → Type 0
DeclinesForm form.Json script failure = DeclinesWritten failure
DeclinesForm form.Text script failure = DeclinesWritten failure
DeclinesForm form.Run script failure = IsFault (DeclinesRun script) failure

-- why a task makes nothing of a script
abbrev pub Declines : Task → Option (List ℕ) → Script → Failure → Type 0
Declines (Run on_threads wording) order script failure = IsFault (DeclinesRun script) failure
Declines (Show on_threads in_numbers options) order script failure = DeclinesShown on_threads options order script failure
Declines (Check by_lines) order script failure = ⊥
Declines (Text form) order script failure = DeclinesForm form script failure
Declines (Explore search) order script failure = IsFault (RefusesSearch script) failure

-- why there is no input: JSON is refused at its first bad part, a text as bytes that are no JSON; or memory is refused
abbrev pub RefusesInput : Result Input Unread → Refusal → Type 0
RefusesInput read (ScriptFault place) = (read ≡ Err (Json place)) ⊎ ((place ≡ 0) × ((wrongs : List Wrong) × (read ≡ Err (Wrongs wrongs))))
RefusesInput read (Memory refused) = Unit {0}
RefusesInput read _ = ⊥

-- why nothing is made of what was read: there is no input, or the task makes nothing of it
abbrev pub IsFailureOf : Task → Option (List ℕ) → Result Input Unread → Failure → Type 0
IsFailureOf task order read failure = IsFault (RefusesInput read) failure ⊎ ((input : Input) × ((read ≡ Ok input) × Declines task order input.script failure))

-- how the program ends for a fault: for want of memory, or with status 4 for a search with an unlawful run, else with 1
abbrev pub ending_of_fault : Refusal → Ending
ending_of_fault (Memory refused) = endings.Memory refused
ending_of_fault (Unlawful index) = endings.Done 4
ending_of_fault _ = endings.Done 1

abbrev pub ending_of_failure : Failure → Ending
ending_of_failure (Fault fault) = ending_of_fault fault
ending_of_failure Past = endings.Done 1
ending_of_failure Long = endings.Done 1
ending_of_failure Stream = endings.Stream

abbrev pub ending_of : Result ℕ Failure → Ending
ending_of (Ok status) = endings.Done status
ending_of (Err failure) = ending_of_failure failure
