-- What the calls of the library answer to C of scripts in either form (own).
use Rattle.std.specs.Prelude.{◌≡◌, ◌⊎◌, ◌<◌, ℕ, ◌++◌, true, false, List, length, Option, None, Result, Ok, Err, string_bytes, if◌then◌else◌}
use Rattle.std.specs.Result.{result_err}
use Rattle.lwkt_base.specs.declared.faults.Fault.{Fault}
use Rattle.lwkt_base.specs.declared.faults.Fault.TheVariants.{Script as ScriptFault, Limits, Unlawful}
use Rattle.lwkt_base.specs.Fault.{no_memory}
use Rattle.lwkt_explore.specs.Expectations.{status_of_text as status_of_text_search}
use Rattle.lwkt_explore.specs.Extents.{is_complete}
use Rattle.lwkt_explore.specs.declared.searches.Found.{Found}
use Rattle.lwkt_explore.specs.Outcomes.{AreOutcomes, AreShort, HasEnded, RefusesSearch}
use Rattle.lwkt_explore.specs.Rounds.{AreRounds}
use Rattle.lwkt_explore.specs.Texts.{text_of_found}
use Rattle.lwkt_explore.specs.Tries.{HasTriedStates}
use Rattle.lwkt_explore.specs.declared.judgements.Judgement.{Judgement}
use Rattle.lwkt_explore.specs.Judgements.{judgement_of, status_of_judgement}
use Rattle.lwkt_report.specs.declared.closings.Closing.{Closing}
use Rattle.lwkt_report.specs.Report.{report_text}
use Rattle.lwkt_run.specs.declared.modes.Mode.TheVariants.{Turns}
use Rattle.lwkt_run.specs.Run.{MayClose, DeclinesRun}
use Rattle.lwkt_script.specs.declared.scripts.Script.{Script}
use Rattle.lwkt_script.specs.Format.{script_of}
use Rattle.lwkt_text.specs.declared.readers.Reading.{Reading}
use Rattle.lwkt_text.specs.declared.wrongs.Wrong.{Wrong}
use Rattle.lwkt_text.specs.declared.inputs.Input.{Input}
use Rattle.lwkt_text.specs.Inputs.{input_of, is_text}
use Rattle.lwkt_text.specs.Reading.{reading_of}
use Rattle.lwkt_verdict.specs.declared.turns.Pace.TheVariants.{Rounds}
use Rattle.lwkt_ffi.specs.declared.answers.LwktAnswer.{LwktAnswer}
use Rattle.lwkt_ffi.specs.declared.orders.Search.{Search}
use Rattle.lwkt_ffi.specs.Answers.{Fills, RefusesInput, status_of_fault}

-- what `lwkt_is_text` answers: whether the bytes are taken for a text, or want of memory
abbrev pub ReportsForm : List ℕ → ℕ → Type 0
ReportsForm script status = (status ≡ (if is_text script then 1 else 0)) ⊎ (status ≡ 3)

-- why a text isn't read: for want of memory; or something is wrong with it, and it is refused as bytes that are no JSON
abbrev pub RefusesReading : List ℕ → Fault → Type 0
RefusesReading text fault = (fault ≡ no_memory) ⊎ ((fault ≡ ScriptFault 0) × ((wrongs : List Wrong) × ((reading_of text ≡ Err wrongs) × (0 < length wrongs))))

-- these bytes are the script of a text, in JSON
abbrev pub IsJsonOf : List ℕ → List ℕ → Type 0
IsJsonOf text json = (reading : Reading) × ((reading_of text ≡ Ok reading) × (script_of json ≡ Ok reading.script))

-- why there is no JSON of a text: it isn't read; or it is, and its JSON would be too long
abbrev pub RefusesJson : List ℕ → Fault → Type 0
RefusesJson text fault = RefusesReading text fault ⊎ ((fault ≡ Limits) × ((reading : Reading) × (reading_of text ≡ Ok reading)))

-- what came of a text whose JSON was asked for
abbrev pub ReportsJson : List ℕ → Result (Unit {0}) Fault → List ℕ → Type 0
ReportsJson text (Ok made) whole = IsJsonOf text whole
ReportsJson text (Err fault) whole = RefusesJson text fault

abbrev pub status_of_made : Result (Unit {0}) Fault → ℕ
status_of_made (Ok made) = 0
status_of_made (Err fault) = status_of_fault fault

-- what `lwkt_text_json` answers: what came of the text, in its status, its answer and the buffer; a text that is refused has some
-- words too
pub record AnswersJson (text old new : List ℕ) (answer : LwktAnswer) (status : ℕ) : Type 0 where
  pub outcome : Result (Unit {0}) Fault
  pub whole : List ℕ
  pub reports : ReportsJson text outcome whole
  pub fills : Fills old new answer whole (result_err outcome)
  pub is_status : status ≡ status_of_made outcome

-- these bytes are a text, and a run of its script may have this report, and come to this by what the text says of it
pub record HasTextReport (text : List ℕ) (judgement : Judgement) (report : List ℕ) : Type 0 where
  pub reading : Reading
  pub read : reading_of text ≡ Ok reading
  pub closing : Closing
  pub closes : MayClose (Rounds reading.script.turns) reading.script closing
  pub is_report : report ≡ report_text closing
  pub is_judgement : judgement ≡ judgement_of reading.expectations Turns closing

-- why a run of a text is refused: it isn't read; or it is, and its machine isn't opened
abbrev pub RefusesTextRun : List ℕ → Fault → Type 0
RefusesTextRun text fault = RefusesReading text fault ⊎ ((reading : Reading) × ((reading_of text ≡ Ok reading) × DeclinesRun reading.script fault))

-- what came of a text that was run: its report, with more behind it; or why there is none
abbrev pub ReportsTextRun : List ℕ → Result Judgement Fault → List ℕ → Type 0
ReportsTextRun text (Ok judgement) whole = (report : List ℕ) × ((verdicts : List ℕ) × (HasTextReport text judgement report × (whole ≡ report ++ verdicts)))
ReportsTextRun text (Err fault) whole = RefusesTextRun text fault

abbrev pub status_of_text_run : Result Judgement Fault → ℕ
status_of_text_run (Ok judgement) = status_of_judgement judgement
status_of_text_run (Err fault) = status_of_fault fault

-- what `lwkt_run_text` answers
pub record AnswersText (text old new : List ℕ) (answer : LwktAnswer) (status : ℕ) : Type 0 where
  pub outcome : Result Judgement Fault
  pub whole : List ℕ
  pub reports : ReportsTextRun text outcome whole
  pub fills : Fills old new answer whole (result_err outcome)
  pub is_status : status ≡ status_of_text_run outcome

-- what a search of a script within these bounds finds: outcomes of it, whose orders are short enough; an ended one, if every order
-- was tried and no state is lost; lost states only if every order was tried; and how many states were kept
pub record AreFoundWithin (script : Script) (states turns : ℕ) (found : Found) : Type 0 where
  pub are : AreOutcomes script found.outcomes
  pub short : AreShort turns found.outcomes
  pub ended : is_complete found ≡ true → found.lost ≡ None → HasEnded found.outcomes
  pub part : is_complete found ≡ false → found.lost ≡ None
  pub tried : HasTriedStates states found.tried

-- what came of a script in either form: what was found of it, and the status by what a text says of that; JSON says nothing
pub record IsSearch (script : List ℕ) (states turns : ℕ) (search : Search) : Type 0 where
  pub input : Input
  pub read : input_of None script ≡ Ok input
  pub is_found : AreFoundWithin input.script states turns search.found
  pub rounds : Option Closing
  pub are_rounds : AreRounds input.script input.expectations rounds
  pub is_status : search.status ≡ status_of_text_search input.expectations rounds search.found

-- why a search of a script in either form is refused: it isn't read; or it is, and a search of it is refused
abbrev pub RefusesOrders : List ℕ → Fault → Type 0
RefusesOrders script fault = RefusesInput script fault ⊎ ((input : Input) × ((input_of None script ≡ Ok input) × RefusesSearch input.script fault))

-- what came of a script whose orders were tried within these bounds: what was found, written out, with what is said of a text's
-- expectations behind it; or it is refused for this fault
abbrev pub ReportsSearch : List ℕ → ℕ → ℕ → Result Search Fault → List ℕ → Type 0
ReportsSearch script states turns (Ok search) whole = IsSearch script states turns search × (whole ≡ text_of_found search.found ++ string_bytes search.verdicts)
ReportsSearch script states turns (Err fault) whole = RefusesOrders script fault

abbrev pub status_of_untried : Fault → ℕ
status_of_untried (Unlawful index) = 4
status_of_untried fault = status_of_fault fault

abbrev pub status_of_orders : Result Search Fault → ℕ
status_of_orders (Ok search) = search.status
status_of_orders (Err fault) = status_of_untried fault

-- what `lwkt_explore_orders` answers: what was found within these bounds, of which the text is made, or why nothing was, in its status,
-- its answer and the buffer
pub record AnswersOrders (script : List ℕ) (states turns : ℕ) (old new : List ℕ) (answer : LwktAnswer) (status : ℕ) : Type 0 where
  pub outcome : Result Search Fault
  pub whole : List ℕ
  pub reports : ReportsSearch script states turns outcome whole
  pub fills : Fills old new answer whole (result_err outcome)
  pub is_status : status ≡ status_of_orders outcome
