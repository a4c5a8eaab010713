-- The lines of turns (own).
use Rattle.std.specs.Prelude.{◌≡◌, ◌⊎◌, ℕ, ◌+◌, ◌*◌, ◌-◌, ◌/◌, ◌%◌, ◌==◌, ◌&&◌, min, nat_le, nat_lt, Bool, true, false, List, [], ◌∷◌, ◌++◌, length, get_or, codes, if◌then◌else◌, Option, Some, None}
use Rattle.std.specs.Fmt.{decimal}
use Rattle.std.specs.Option.{option_copied}
use Rattle.lwkt_base.specs.declared.asks.Answer.{Answer}
use Rattle.lwkt_base.specs.declared.faults.Fault.{Fault}
use Rattle.lwkt_refusals.specs.declared.pages.Page.{Page}
use Rattle.lwkt_refusals.specs.Pages.{GrowsBy}
use Rattle.lwkt_verdict.specs.declared.turns.Poll.{Poll}
use Rattle.lwkt_verdict.specs.declared.turns.Turn.{Turn}
use Rattle.lwkt_verdict.specs.Run.{poll_of}
use Rattle.lwkt_report.specs.declared.closings.Closing.{Closing}
use Rattle.lwkt_script.specs.declared.scripts.Script.{Script}
use Rattle.lwkt_text.specs.declared.tables.Names.{Names}
use Rattle.lwkt_told.specs.Told.{named_report}
use Rattle.lwkt_show.specs.declared.options.Counted.{Counted}
use Rattle.lwkt_show.specs.declared.options.Counted.TheVariants.{Turns, Rounds}
use Rattle.lwkt_show.specs.declared.options.Options.{Options}
use Rattle.lwkt_show.specs.declared.reels.Reel.{Reel}
use Rattle.lwkt_show.specs.declared.stories.Came.{Came}
use Rattle.lwkt_show.specs.declared.stories.Came.TheVariants.{Runs, Waits, Ends, Faulted}
use Rattle.lwkt_show.specs.declared.stories.Step.{Step}
use Rattle.lwkt_show.specs.declared.walks.Way.{Way}
use Rattle.lwkt_show.specs.Computed.{way_text}
use Rattle.lwkt_show.specs.Words.{thread_said, ask_said, answer_text, fault_text}

-- an answer for which the thread waits before it has it
abbrev pub late_text : Option Names → Answer → List ℕ
late_text names answer = codes "waits, then " ++ answer_text names answer

-- a thread ends by a fault
abbrev pub faulted_text : Fault → List ℕ
faulted_text fault = codes "ends faulted " ++ fault_text fault

-- the answer to an ask, where this came of it
abbrev pub answered_text : Option Names → Came → Answer → List ℕ
answered_text names Waits answer = late_text names answer
answered_text names _ answer = answer_text names answer

-- what came of a step whose thread isn't asked again
abbrev pub unanswered_text : Came → List ℕ
unanswered_text Runs = codes "not asked again"
unanswered_text Waits = codes "waits"
unanswered_text Ends = codes "ends"
unanswered_text (Faulted fault) = faulted_text fault

-- what came of a step: the answer that its thread got, if it was asked again, else what it did then
abbrev pub came_text : Option Names → Came → Option Answer → List ℕ
came_text names came (Some answer) = answered_text names came answer
came_text names came None = unanswered_text came

-- which time over a thread makes its steps, from 1, where it makes them more than once
abbrev pub time_text : Step → List ℕ
time_text step = if nat_lt 1 step.repeat then codes " of time " ++ decimal (step.polls / step.steps + 1) else []

-- which of its steps a thread makes
abbrev pub step_text : Step → List ℕ
step_text step =
    if step.steps == 0 then codes "after its steps" else (
    if nat_le step.repeat (step.polls / step.steps) then codes "after its steps" else codes "step " ++ decimal (step.polls % step.steps) ++ time_text step)

-- a poll: its thread, what that computed on its way, which of its steps it made, what it asked, and what came of it
abbrev pub poll_text : Option Names → Poll → Way → Step → Came → List ℕ
poll_text names poll way step came =
    codes ", thread " ++ thread_said names poll.thread ++ codes ", " ++ way_text names poll.thread way ++ step_text step ++ codes ": " ++ ask_said names poll.ask ++ codes ": " ++ came_text names came poll.answer

-- a turn: its number, its round and its processor
abbrev pub turn_text : ℕ → ℕ → ℕ → List ℕ
turn_text number round cpu = (codes "turn " ++ decimal number) ++ (codes ", round " ++ decimal round) ++ (codes ", processor " ++ decimal cpu)

-- some words say that no thread runs: none is left, or why the others don't, which is not said
abbrev pub IsIdle : List ℕ → Type 0
IsIdle words = (words ≡ codes ": no thread is left") ⊎ ((why : List ℕ) × (words ≡ codes ": no thread runs: " ++ why))

-- some words say a turn's poll, or that it has none; what the thread computed on its way, which of its steps it made, and what it did
-- then, is not said
abbrev pub IsDoing : Option Names → Option Poll → List ℕ → Type 0
IsDoing names None words = IsIdle words
IsDoing names (Some poll) words = (way : Way) × (step : Step) × (came : Came) × (words ≡ poll_text names poll way step came)

-- the line of a turn, in the names of a text or in numbers: the turn, its poll, its events and the end of the line; what is said of its
-- events is not said
pub record IsLine (names : Option Names) (number round cpu : ℕ) (poll : Option Poll) (line : List ℕ) : Type 0 where
  pub doing : List ℕ
  pub events : List ℕ
  pub doing_is : IsDoing names poll doing
  pub parts : line ≡ turn_text number round cpu ++ doing ++ events ++ codes "\n"

-- how many turns a round has; one where there is no processor
abbrev pub round_length : ℕ → ℕ
round_length cpus = if cpus == 0 then 1 else cpus

-- the round of a turn; along an order each turn is a round of its own
abbrev pub round_of : Option (List ℕ) → ℕ → ℕ → ℕ
round_of None cpus number = number / round_length cpus
round_of (Some order) cpus number = number

-- the processor of a turn
abbrev pub processor_of_turn : Option (List ℕ) → ℕ → ℕ → ℕ
processor_of_turn None cpus number = number % round_length cpus
processor_of_turn (Some order) cpus number = get_or order number 0

-- the greatest number by which a turn can be named
abbrev pub most : ℕ
most = 18446744073709551615

-- the first turn of a range, and the last one, where a round has so many turns
abbrev pub range_first : Counted → ℕ → ℕ → ℕ
range_first Turns first turns = first
range_first Rounds first turns = min (first * turns) most

abbrev pub range_last : Counted → ℕ → ℕ → ℕ
range_last Turns last turns = last
range_last Rounds last turns = min (min (last + 1) most * turns) most - 1

-- the last turn that is shown of those from the first to the last: at most the first 10000 of these are
abbrev pub last_shown : ℕ → ℕ → ℕ
last_shown first last = min last (min (first + 9999) most)

-- whether a turn is shown
abbrev pub is_shown : ℕ → ℕ → ℕ → Bool
is_shown first last number = nat_le first number && nat_le number (last_shown first last)

-- what is said of the turns before the first that is shown
abbrev pub before_text : ℕ → List ℕ
before_text first = if first == 0 then [] else codes "turns before turn " ++ decimal first ++ codes " are not shown\n"

-- what is said of those behind the last one, of so many turns
abbrev pub after_text : ℕ → ℕ → List ℕ
after_text last turns =
    if nat_lt last (turns - 1) then (codes "turns behind turn " ++ decimal last) ++ (codes " are not shown, of " ++ decimal turns) ++ (codes " in all; at most " ++ decimal 10000) ++ codes " are, chosen by --turns A..B or --rounds A..B\n" else []

-- which turns are left out, of so many, where those from the first to the last are chosen
abbrev pub choice_text : ℕ → ℕ → ℕ → List ℕ
choice_text first last turns = before_text first ++ after_text (last_shown first last) turns

-- what stands for a turn: its line if it is shown, else nothing
abbrev pub IsLineIfShown : Option Names → Bool → ℕ → ℕ → ℕ → Option Poll → List ℕ → Type 0
IsLineIfShown names true number round cpu poll text = IsLine names number round cpu poll text
IsLineIfShown names false number round cpu poll text = text ≡ []

-- the lines of those turns that are shown from the first to the last, in order, numbered from n
abbrev pub AreLines : Option Names → ℕ → ℕ → Option (List ℕ) → ℕ → List Poll → ℕ → List Turn → List ℕ → Type 0
AreLines names first last order cpus polls n [] text = text ≡ []
AreLines names first last order cpus polls n (turn ∷ turns) text =
    (line : List ℕ) × (rest : List ℕ) × (text ≡ line ++ rest) × IsLineIfShown names (is_shown first last n) n (round_of order cpus n) (processor_of_turn order cpus n) (poll_of polls turn) line × AreLines names first last order cpus polls (n + 1) turns rest

-- some words of which this holds stand on a page behind what stood on it, unless memory was refused for a piece of it
pub record AddsWords (Holds : List ℕ → Type 0) (old new : Page) : Type 0 where
  pub words : List ℕ
  pub holds : Holds words
  pub grows : GrowsBy old new words

-- a text begins with words of which this holds
pub record Begins (Holds : List ℕ → Type 0) (text : List ℕ) : Type 0 where
  pub front : List ℕ
  pub rest : List ℕ
  pub holds : Holds front
  pub is : text ≡ front ++ rest

-- the lines of a run's turns, of those that are chosen, and then which turns are left out
pub record AreTurnLines (names : Option Names) (options : Options) (order : Option (List ℕ)) (cpus : ℕ) (polls : List Poll) (turns : List Turn) (text : List ℕ) : Type 0 where
  pub first : ℕ
  pub last : ℕ
  pub lines : List ℕ
  pub is_first : first ≡ range_first options.counted options.first (round_length cpus)
  pub is_last : last ≡ range_last options.counted options.last (round_length cpus)
  pub are : AreLines names first last order cpus polls 0 turns lines
  pub parts : text ≡ lines ++ choice_text first last (length turns)

-- the same of what was kept of a run, at the beginning of a text
abbrev pub BeginsWithLines : Option Names → Reel → Options → List ℕ → Type 0
BeginsWithLines names run options text = Begins (AreTurnLines names options (option_copied run.order) run.script.now.cpus run.polls.now run.turns.now) text

-- a text is the lines of a run's turns, of those that are chosen, one behind another; then which turns are left out, and some words;
-- and then the run's report
pub record AreLinesOf (names : Option Names) (options : Options) (order : Option (List ℕ)) (script : Script) (polls : List Poll) (turns : List Turn) (closing : Closing) (text : List ℕ) : Type 0 where
  pub front : List ℕ
  pub behind : List ℕ
  pub shown : AreTurnLines names options order script.cpus polls turns front
  pub parts : text ≡ front ++ behind ++ named_report names script closing
