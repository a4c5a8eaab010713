-- What the calls of the library answer to C (own).
use Rattle.std.specs.Prelude.{◌≡◌, ◌⊎◌, ℕ, ◌++◌, ◌==◌, if◌then◌else◌, bytes_eq, codes, remove, Bool, true, false, List, [], ◌∷◌, length, take, drop, Option, None, Some, Result, Ok, Err}
use Rattle.std.specs.List.{slice_split}
use Rattle.std.specs.Result.{result_err}
use Rattle.std.specs.Str.{IsUtf8}
use Rattle.lwkt_base.specs.declared.faults.Fault.{Fault}
use Rattle.lwkt_base.specs.declared.faults.Fault.TheVariants.{Script, Memory}
use Rattle.lwkt_base.specs.Fault.{no_memory}
use Rattle.lwkt_base.specs.Fault.{number_of}
use Rattle.lwkt_report.specs.declared.sources.TheConstants.{READ_LIMIT}
use Rattle.lwkt_run.specs.declared.runs.End.{End}
use Rattle.lwkt_run.specs.declared.runs.End.TheVariants.{Ended, TurnsOut, Unlawful}
use Rattle.lwkt_run.specs.Run.{HasRun, Refuses}
use Rattle.lwkt_checker.specs.Judgement.{HasFinding, RefusesTrace as IsNoTrace}
use Rattle.lwkt_show.specs.Showing.{DeclinesShow, EndsBeforeChosen, IsShown}
use Rattle.lwkt_show.specs.declared.options.Options.{Options}
use Rattle.lwkt_text.specs.declared.inputs.Input.{Input}
use Rattle.lwkt_text.specs.declared.inputs.Unread.{Unread}
use Rattle.lwkt_text.specs.declared.tables.Names.{Names}
use Rattle.lwkt_text.specs.declared.inputs.Unread.TheVariants.{Memory as MemoryOfInput, Json, Wrongs}
use Rattle.lwkt_text.specs.Inputs.{IsUnread, input_of}
use Rattle.lwkt_ffi.specs.Alongs.{AreAlong}
use Rattle.lwkt_ffi.specs.Arguments.{AreOptions}
use Rattle.lwkt_ffi.specs.declared.answers.LwktAnswer.{LwktAnswer}
use Rattle.lwkt_ffi.specs.declared.shows.Showing.{Showing}
use Rattle.lwkt_ffi.specs.declared.shows.Showing.TheVariants.{Shown, Past, Misused}

-- a buffer after a text was put into it: the text, or as much of its front as there is room for, and what stood behind that
abbrev pub buffer_with_text : List ℕ → List ℕ → List ℕ
buffer_with_text buffer whole = take (length buffer) whole ++ drop (length whole) buffer

-- the place that a fault names
abbrev pub place_of_fault : Fault → ℕ
place_of_fault (Script place) = place
place_of_fault _ = 0

-- the answer of a call with a text of this length that was refused for this fault, if it was
abbrev pub call_answer : ℕ → Option Fault → LwktAnswer
call_answer whole None = record { length = whole; fault = 0; place = 0 }
call_answer whole (Some fault) = record { length = whole; fault = number_of fault; place = place_of_fault fault }

-- the status of a run that ended so
abbrev pub status_of_end : End → ℕ
status_of_end Ended = 0
status_of_end TurnsOut = 2
status_of_end Unlawful = 4

-- the status of a call that was refused
abbrev pub status_of_fault : Fault → ℕ
status_of_fault (Memory refused) = 3
status_of_fault _ = 1

-- what stands in the caller's buffer and answer after a call with this text that was refused for this fault, if it was
pub record Fills (old new : List ℕ) (answer : LwktAnswer) (whole : List ℕ) (fault : Option Fault) : Type 0 where
  pub is_text : new ≡ buffer_with_text old whole
  pub is_answer : answer ≡ call_answer (length whole) fault

-- the fault of input that isn't read: of a text that something is wrong with, that of bytes that are no JSON
abbrev pub fault_of : Unread → Fault
fault_of (MemoryOfInput refused) = Memory refused
fault_of (Json place) = Script place
fault_of (Wrongs wrongs) = Script 0

-- why a script in either form isn't read
abbrev pub RefusesInput : List ℕ → Fault → Type 0
RefusesInput script fault = (unread : Unread) × (IsUnread unread (input_of None script) × (fault ≡ fault_of unread))

-- the front of what was given that is read
abbrev pub read_front : List ℕ → List ℕ
read_front given = take READ_LIMIT given

-- what came of a script: a run of it may end so, with this report; or it is refused for this fault
abbrev pub ReportsRun : List ℕ → Result End Fault → List ℕ → Type 0
ReportsRun script (Ok end) whole = HasRun (read_front script) end whole
ReportsRun script (Err fault) whole = Refuses (read_front script) fault

abbrev pub status_of_run : Result End Fault → ℕ
status_of_run (Ok end) = status_of_end end
status_of_run (Err fault) = status_of_fault fault

-- what `lwkt_run_turns` answers: what came of the script, in its status, its answer and the buffer; a script that is refused has some
-- text too
pub record AnswersRun (script old new : List ℕ) (answer : LwktAnswer) (status : ℕ) : Type 0 where
  pub outcome : Result End Fault
  pub whole : List ℕ
  pub reports : ReportsRun script outcome whole
  pub fills : Fills old new answer whole (result_err outcome)
  pub is_status : status ≡ status_of_run outcome

-- the front of what was given that is read as a trace
abbrev pub trace_in : List ℕ → List ℕ
trace_in given = take 268435457 given

-- what came of a trace: whether it is lawful, with the text of what was found; or it is refused for this fault
abbrev pub ReportsCheck : List ℕ → Result Bool Fault → List ℕ → Type 0
ReportsCheck trace (Ok lawful) whole = HasFinding (trace_in trace) lawful whole
ReportsCheck trace (Err fault) whole = IsNoTrace (trace_in trace) fault

abbrev pub status_of_check : Result Bool Fault → ℕ
status_of_check (Ok true) = 0
status_of_check (Ok false) = 4
status_of_check (Err fault) = status_of_fault fault

-- what `lwkt_check_trace` answers: what came of the trace, in its status, its answer and the buffer; a trace that is refused has some
-- text too
pub record AnswersCheck (trace old new : List ℕ) (answer : LwktAnswer) (status : ℕ) : Type 0 where
  pub outcome : Result Bool Fault
  pub whole : List ℕ
  pub reports : ReportsCheck trace outcome whole
  pub fills : Fills old new answer whole (result_err outcome)
  pub is_status : status ≡ status_of_check outcome

-- the words of arguments: the parts that blanks stand between
abbrev pub words_in : List ℕ → List (List ℕ)
words_in arguments = slice_split (λ b. b == 32) arguments

-- whether the word behind the first asks for the names of a text
abbrev pub asks_names : List (List ℕ) → Bool
asks_names [] = false
asks_names (mode ∷ []) = false
asks_names (mode ∷ word ∷ words) = bytes_eq word (codes "--names")

-- the words without that word
abbrev pub without_names : List (List ℕ) → List (List ℕ)
without_names words = if asks_names words then remove words 1 else words

-- the words of arguments, without that word
abbrev pub words_asked : List ℕ → List (List ℕ)
words_asked arguments = without_names (words_in arguments)

-- whether the arguments ask for the names of a text
abbrev pub in_names : List ℕ → Bool
in_names arguments = asks_names (words_in arguments)

-- the names in which a run is shown: those of a text, if they are asked for
abbrev pub names_shown : Bool → Input → Option Names
names_shown true input = input.names
names_shown false input = None

-- these words ask for no run in rounds, and for none along an order
abbrev pub AskNothing : List (List ℕ) → Type 0
AskNothing words = ((options : Options) → ¬ AreOptions words options) × ((options : Options) (order : List ℕ) → ¬ AreAlong words options order)

-- the arguments do neither
abbrev pub AskForNoRun : List ℕ → Type 0
AskForNoRun arguments = IsUtf8 arguments → AskNothing (words_asked arguments)

-- a run of this script in either form, in rounds or along this order, ended so, and the text shows it as the options say, in the names
-- of a text, if that is asked for
abbrev pub ShowsIn : Bool → Options → Option (List ℕ) → List ℕ → End → List ℕ → Type 0
ShowsIn named options order script end text = (input : Input) × ((input_of None script ≡ Ok input) × IsShown (names_shown named input) options order input.script end text)

-- such a run ended before the first turn that was chosen
abbrev pub EndsBeforeIn : Options → Option (List ℕ) → List ℕ → Type 0
EndsBeforeIn options order script = (input : Input) × ((input_of None script ≡ Ok input) × EndsBeforeChosen options order input.script)

-- why such a run isn't made: the script isn't read; or it is, and its machine isn't opened, or the order names a processor that isn't
-- there
abbrev pub RefusesShow : List ℕ → Option (List ℕ) → Fault → Type 0
RefusesShow script order fault = RefusesInput script fault ⊎ ((input : Input) × ((input_of None script ≡ Ok input) × DeclinesShow input.script order fault))

-- what came of a script that was to be shown with these options, in rounds or along this order: a run of it ended so, and the text
-- shows it; or it ended before the first turn that was chosen; or it is refused for this fault
abbrev pub Displays : Bool → Options → Option (List ℕ) → List ℕ → Result Showing Fault → List ℕ → Type 0
Displays named options order script (Ok (Shown end)) whole = ShowsIn named options order script end whole
Displays named options order script (Ok Past) whole = EndsBeforeIn options order script
Displays named options order script (Ok Misused) whole = ⊥
Displays named options order script (Err fault) whole = RefusesShow script order fault

abbrev pub status_of_show : Result Showing Fault → ℕ
status_of_show (Ok (Shown end)) = status_of_end end
status_of_show (Ok Past) = 1
status_of_show (Ok Misused) = 1
status_of_show (Err fault) = status_of_fault fault

-- what `lwkt_show_turns` answers: where the arguments are options, what came of the script with these; where they name an order too,
-- what came of it along that; where they are none, that they aren't, or want of memory; all in its status, its answer and the buffer
pub record AnswersShow (script arguments old new : List ℕ) (answer : LwktAnswer) (status : ℕ) : Type 0 where
  pub outcome : Result Showing Fault
  pub whole : List ℕ
  pub shows : IsUtf8 arguments → (options : Options) → AreOptions (words_asked arguments) options → Displays (in_names arguments) options None script outcome whole
  pub along : IsUtf8 arguments → (options : Options) (order : List ℕ) → AreAlong (words_asked arguments) options order → Displays (in_names arguments) options (Some order) script outcome whole
  pub misused : AskForNoRun arguments → (outcome ≡ Ok Misused) ⊎ (outcome ≡ Err no_memory)
  pub fills : Fills old new answer whole (result_err outcome)
  pub is_status : status ≡ status_of_show outcome
