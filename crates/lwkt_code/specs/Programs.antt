-- Whole programs (own, version 3).
use Rattle.std.specs.Prelude.{◌≡◌, ℕ, ◌-◌, ◌/◌, ◌%◌, ◌<◌, ◌==◌, nat_lt, false, List, length, map, replicate, Option, Some, None, slice_get, unwrap_or, option_and_then, if◌then◌else◌}
use Rattle.lwkt_base.specs.declared.asks.Ask.{Ask}
use Rattle.lwkt_base.specs.declared.asks.Ask.TheVariants.{Exit}
use Rattle.lwkt_base.specs.declared.asks.Answer.{Answer}
use Rattle.lwkt_code.specs.declared.circles.TheConstants.{MOST_STEPS}
use Rattle.lwkt_code.specs.declared.steps.Step.{Step}
use Rattle.lwkt_code.specs.declared.steps.Step.TheVariants.{Fixed}
use Rattle.lwkt_code.specs.declared.locals.Local.{Local}
use Rattle.lwkt_code.specs.declared.checks.Flaw.{Flaw}
use Rattle.lwkt_code.specs.declared.codes.Wrong.{Wrong}
use Rattle.lwkt_code.specs.declared.codes.Wrong.TheVariants.{TooMany, Step as StepIsWrong, Circle}
use Rattle.lwkt_code.specs.Flaws.{flaw_of}
use Rattle.lwkt_code.specs.Accepted.{IsAccepted, IsCircle}
use Rattle.lwkt_code.specs.Next.{asks_by}

-- what callers see of a program: its steps, how many times they are made, and what the variables hold first
pub record Program : Type 0 where
  pub steps : List Step
  pub repeat : ℕ
  pub vars : List ℕ

-- what is wrong with the step at a place
abbrev pub flaw_at : List Step → ℕ → Option Flaw
flaw_at steps at = option_and_then (flaw_of (length steps)) (slice_get steps at)

-- no step is wrong by itself
abbrev pub IsFlawless : List Step → Type 0
IsFlawless steps = (at : ℕ) → flaw_at steps at ≡ None

-- steps that are a program
pub record IsSound (steps : List Step) : Type 0 where
  pub flawless : IsFlawless steps
  pub accepted : IsAccepted steps

-- the first step that is wrong by itself, and what is wrong with it
abbrev pub IsFirstFlaw : List Step → ℕ → Flaw → Type 0
IsFirstFlaw steps at flaw = (flaw_at steps at ≡ Some flaw) × ((before : ℕ) → before < at → flaw_at steps before ≡ None)

-- what is wrong with steps that have this loop without an ask, if they have one
abbrev pub circle_of : Option (ℕ × ℕ) → Option Wrong
circle_of None = None
circle_of (Some circle) = Some (Circle circle.0 circle.1)

-- why steps aren't a program
abbrev pub IsWrong : List Step → Wrong → Type 0
IsWrong steps TooMany = MOST_STEPS < length steps
IsWrong steps (StepIsWrong at flaw) = IsFirstFlaw steps at flaw
IsWrong steps (Circle begin end) = IsFlawless steps × IsCircle steps begin end

-- where a thread stands that has asked nothing yet; of a program that is made no times that is the end
abbrev pub start : Program → Local
start p = record { at = if p.repeat == 0 then length p.steps else 0; left = p.repeat - 1; vars = p.vars; counts = replicate 8 0; refused = 0; asked = false }

-- the steps of a list of asks
abbrev pub listed : List Ask → List Step
listed asks = map (λ ask. Fixed ask) asks

-- the program of a list of asks, whose variables hold 0 first
abbrev pub listed_program : List Ask → ℕ → Program
listed_program asks repeat = record { steps = listed asks; repeat = repeat; vars = replicate 8 0 }

-- ask k of a list that is made so many times: ask k mod its length, and Exit after the last
abbrev pub listed_ask : ℕ → List Ask → ℕ → Ask
listed_ask repeat asks k =
    if length asks == 0 then Exit else (
    if nat_lt (k / length asks) repeat then unwrap_or (slice_get asks (k % length asks)) Exit else Exit)

-- a theorem: a list of asks is a program
abbrev pub ListsAreSound : Type 0
ListsAreSound = (asks : List Ask) → IsSound (listed asks)

-- a theorem: a thread whose steps are a list of asks makes them in order, so many times over, and then asks Exit, whatever it is answered
abbrev pub AsksAsListed : Type 0
AsksAsListed = (asks : List Ask) (repeat : ℕ) (vars : List ℕ) (answers : List Answer) (k : ℕ) → k < length answers
    → slice_get (asks_by (listed asks) (start (record { steps = listed asks; repeat = repeat; vars = vars })) answers) k ≡ Some (listed_ask repeat asks k)
