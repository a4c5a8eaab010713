-- What each task makes of an input: a text for standard output, and the status that goes with it (own).
use Rattle.std.specs.Prelude.{◌≡◌, ◌≤◌, ℕ, length, List, Bool, true, false, Option, None, Some, Result, Ok}
use Rattle.lwkt_base.specs.declared.limits.TheConstants.{SCRIPT_BYTES}
use Rattle.lwkt_explore.specs.declared.extents.Extent.TheVariants.{Sampled}
use Rattle.lwkt_explore.specs.declared.searches.Found.{Found}
use Rattle.lwkt_explore.specs.Expectations.{status_of_text}
use Rattle.lwkt_explore.specs.Extents.{is_complete}
use Rattle.lwkt_explore.specs.Judgements.{judgement_of, status_of_judgement}
use Rattle.lwkt_explore.specs.Rounds.{AreRounds}
use Rattle.lwkt_explore.specs.Outcomes.{AreOutcomes, AreShort, AreWhole, HasEnded}
use Rattle.lwkt_explore.specs.declared.forms.Telling.{Telling}
use Rattle.lwkt_explore.specs.Jsons.{finding_json}
use Rattle.lwkt_explore.specs.Texts.{text_in}
use Rattle.lwkt_explore.specs.Tries.{HasTriedOrders, HasTriedStates}
use Rattle.lwkt_report.specs.declared.closings.Closing.{Closing}
use Rattle.lwkt_report.specs.Report.{report_text}
use Rattle.lwkt_request.specs.declared.requests.Form.{Form}
use Rattle.lwkt_request.specs.declared.requests.Form.TheVariants as form
use Rattle.lwkt_request.specs.declared.requests.Layout.{Layout}
use Rattle.lwkt_request.specs.declared.requests.Layout.TheVariants.{Lines, Json}
use Rattle.lwkt_request.specs.declared.requests.Search.{Search}
use Rattle.lwkt_request.specs.declared.requests.Task.{Task}
use Rattle.lwkt_request.specs.declared.requests.Task.TheVariants.{Run, Show, Check, Text, Explore}
use Rattle.lwkt_request.specs.declared.requests.Wording.{Wording}
use Rattle.lwkt_request.specs.declared.requests.Wording.TheVariants as wordings
use Rattle.lwkt_run.specs.declared.modes.Mode.{Mode}
use Rattle.lwkt_run.specs.declared.modes.Mode.TheVariants.{Turns, Threads}
use Rattle.lwkt_run.specs.declared.runs.End.{End}
use Rattle.lwkt_run.specs.Modes.{MayCloseBy}
use Rattle.lwkt_run.specs.Run.{exit_status}
use Rattle.lwkt_script.specs.declared.scripts.Script.{Script}
use Rattle.lwkt_script.specs.Format.{script_of}
use Rattle.lwkt_show.specs.declared.options.Options.{Options}
use Rattle.lwkt_show.specs.Showing.{IsShown, IsShownOnThreads}
use Rattle.lwkt_text.specs.declared.inputs.Input.{Input}
use Rattle.lwkt_text.specs.declared.inputs.Unread.{Unread}
use Rattle.lwkt_text.specs.declared.tables.Names.{Names}
use Rattle.lwkt_text.specs.Reading.{IsTextOf}
use Rattle.lwkt_told.specs.Told.{named_report}

-- how processors are driven
abbrev pub mode_of : Bool → Mode
mode_of false = Turns
mode_of true = Threads

-- the report in the words that are asked for
abbrev pub report_in : Wording → Input → Closing → List ℕ
report_in wordings.Names input closing = named_report input.names input.script closing
report_in wordings.Numbers input closing = report_text closing
report_in wordings.OldName input closing = report_text closing

-- a run of the script, driven so, may end with this report; the status is that of what the run came to, by what is expected of it
pub record IsReport (mode : Mode) (wording : Wording) (input : Input) (text : List ℕ) (status : ℕ) : Type 0 where
  pub closing : Closing
  pub closes : MayCloseBy mode input.script closing
  pub is_text : text ≡ report_in wording input closing
  pub is_status : status ≡ status_of_judgement (judgement_of input.expectations mode closing)

-- the names in which a run is shown: those of a text, unless numbers are asked for
abbrev pub names_in : Bool → Input → Option Names
names_in true input = None
names_in false input = input.names

-- a run of the script, on threads or not, is shown so, in these names or in numbers; the status is that of how it ended
abbrev pub IsShow : Bool → Option Names → Options → Option (List ℕ) → Script → List ℕ → ℕ → Type 0
IsShow false names options order script text status = (end : End) × (IsShown names options order script end text × (status ≡ exit_status (Ok end)))
IsShow true names options order script text status = (end : End) × (IsShownOnThreads script end text × (status ≡ exit_status (Ok end)))

-- a text has no more bytes than a script may have
abbrev pub IsShort : List ℕ → Type 0
IsShort text = length text ≤ SCRIPT_BYTES

-- the script in this form, or the report of a run in rounds
abbrev pub IsForm : Form → Input → List ℕ → ℕ → Type 0
IsForm form.Json input text status = (script_of text ≡ Ok input.script) × (IsShort text × (status ≡ 0))
IsForm form.Text input text status = IsTextOf input.script text × (IsShort text × (status ≡ 0))
IsForm form.Run input text status = IsReport Turns wordings.Numbers input text status

-- what a search of the script finds, within these bounds on states and turns
pub record IsSearched (states turns : ℕ) (script : Script) (found : Found) : Type 0 where
  pub outcomes : AreOutcomes script found.outcomes
  pub short : AreShort turns found.outcomes
  pub ended : is_complete found ≡ true → found.lost ≡ None → HasEnded found.outcomes
  pub whole : is_complete found ≡ true → AreWhole found.outcomes
  pub lost : is_complete found ≡ false → found.lost ≡ None
  pub tried : HasTriedStates states found.tried

-- what random orders of it find, at most so many, within this bound on turns
pub record IsSampled (most turns : ℕ) (script : Script) (found : Found) : Type 0 where
  pub outcomes : AreOutcomes script found.outcomes
  pub short : AreShort turns found.outcomes
  pub part : found.extent ≡ Sampled
  pub lost : found.lost ≡ None
  pub tried : HasTriedOrders most found.tried

abbrev pub IsFoundBy : Option ℕ → Search → Script → Found → Type 0
IsFoundBy None search script found = IsSearched search.bounds.states search.bounds.turns script found
IsFoundBy (Some most) search script found = IsSampled most search.bounds.turns script found

-- what is found of the script, if this is asked for
abbrev pub IsFound : Search → Script → Found → Type 0
IsFound search script found = IsFoundBy search.random search script found

-- the text of what is found of an input with these bytes, in a layout
abbrev pub text_in_layout : Layout → Option Telling → List ℕ → Input → Option Closing → Found → List ℕ
text_in_layout Lines telling bytes input rounds found = text_in telling found
text_in_layout Json telling bytes input rounds found = finding_json telling bytes input.expectations rounds found

-- the same in these names
pub record IsToldFinding (layout : Layout) (names : Names) (bytes : List ℕ) (input : Input) (rounds : Option Closing) (found : Found) (text : List ℕ) : Type 0 where
  pub telling : Telling
  pub are_names : telling.names.now ≡ names
  pub is_script : telling.script.now ≡ input.script
  pub is_text : text ≡ text_in_layout layout (Some telling) bytes input rounds found

-- the same in the names of a text, if it has some
abbrev pub IsNamedFinding : Layout → Option Names → List ℕ → Input → Option Closing → Found → List ℕ → Type 0
IsNamedFinding layout None bytes input rounds found text = text ≡ text_in_layout layout None bytes input rounds found
IsNamedFinding layout (Some names) bytes input rounds found text = IsToldFinding layout names bytes input rounds found text

-- the same in numbers, if that is asked for, or else in names
abbrev pub IsFindingIn : Bool → Layout → List ℕ → Input → Option Closing → Found → List ℕ → Type 0
IsFindingIn true layout bytes input rounds found text = text ≡ text_in_layout layout None bytes input rounds found
IsFindingIn false layout bytes input rounds found text = IsNamedFinding layout input.names bytes input rounds found text

-- the text of what is found of an input with these bytes; the status is by what is expected
pub record IsFindingOf (search : Search) (bytes : List ℕ) (input : Input) (text : List ℕ) (status : ℕ) : Type 0 where
  pub found : Found
  pub is_found : IsFound search input.script found
  pub rounds : Option Closing
  pub are_rounds : AreRounds input.script input.expectations rounds
  pub is_text : IsFindingIn search.in_numbers search.layout bytes input rounds found text
  pub is_status : status ≡ status_of_text input.expectations rounds found

-- the same of an input with some bytes, by which JSON has the lines of what a text says
pub record IsFinding (search : Search) (input : Input) (text : List ℕ) (status : ℕ) : Type 0 where
  pub bytes : List ℕ
  pub is : IsFindingOf search bytes input text status

-- what a task makes of an input, with this order, if one is named; a check takes none
abbrev pub IsMade : Task → Option (List ℕ) → Input → List ℕ → ℕ → Type 0
IsMade (Run on_threads wording) order input text status = IsReport (mode_of on_threads) wording input text status
IsMade (Show on_threads in_numbers options) order input text status = IsShow on_threads (names_in in_numbers input) options order input.script text status
IsMade (Check by_lines) order input text status = ⊥
IsMade (Text form) order input text status = IsForm form input text status
IsMade (Explore search) order input text status = IsFinding search input text status

-- the same of what was read
abbrev pub IsMadeOf : Task → Option (List ℕ) → Result Input Unread → List ℕ → ℕ → Type 0
IsMadeOf task order read text status = (input : Input) × ((read ≡ Ok input) × IsMade task order input text status)

-- a task that takes a script
abbrev pub TakesScript : Task → Type 0
TakesScript (Check by_lines) = ⊥
TakesScript _ = Unit {0}
