-- The first step that is wrong, and the first loop without an ask, as functions (own, version 3).
use Rattle.std.specs.Prelude.{◌≡◌, ℕ, zero, suc, ◌<◌, ◌≤◌, ◌==◌, ◌&&◌, ◌||◌, nat_lt, Bool, false, List, [], ◌∷◌, length, Option, Some, None, is_some, if◌then◌else◌}
use Rattle.std.specs.Option.{option_or}
use Rattle.lwkt_code.specs.declared.circles.TheConstants.{MOST_STEPS}
use Rattle.lwkt_code.specs.declared.steps.Step.{Step}
use Rattle.lwkt_code.specs.declared.codes.Wrong.{Wrong}
use Rattle.lwkt_code.specs.declared.codes.Wrong.TheVariants.{TooMany, Step as StepIsWrong, Circle}
use Rattle.lwkt_code.specs.Accepted.{leads_from}
use Rattle.lwkt_code.specs.Programs.{flaw_at}

-- the first number below n that passes a test
abbrev pub first_below : ℕ → (ℕ → Bool) → Option ℕ
first_below zero test = None
first_below (suc n) test = option_or (first_below n test) (if test n then Some n else None)

-- whether one of these places passes a test
abbrev pub some_pass : (ℕ → Bool) → List ℕ → Bool
some_pass test [] = false
some_pass test (to ∷ targets) = test to || some_pass test targets

-- whether a way without an ask, over later places and of at most n steps, leads from a place back to the beginning of a loop
unfoldable pub comes_back : ℕ → List Step → ℕ → ℕ → Bool
comes_back zero steps begin at = false
comes_back (suc n) steps begin at = some_pass (λ to. to == begin || (nat_lt begin to && comes_back n steps begin to)) (leads_from steps at)

-- the first step that is wrong by itself
abbrev pub first_flaw : List Step → Option ℕ
first_flaw steps = first_below (length steps) (λ at. is_some (flaw_at steps at))

-- the first place at which a loop without an ask begins; of a program of 768 steps none has a longer way
abbrev pub first_circle : List Step → Option ℕ
first_circle steps = first_below (length steps) (λ at. comes_back 771 steps at at)

-- steps of which none is wrong, and no loop is without an ask
pub record AreClear (steps : List Step) : Type 0 where
  pub few : length steps ≤ MOST_STEPS
  pub flawless : first_flaw steps ≡ None
  pub no_circle : first_circle steps ≡ None

-- what is found wrong is the first: too many steps, then a step by itself, and then a loop
abbrev pub IsFirstWrong : List Step → Wrong → Type 0
IsFirstWrong steps TooMany = MOST_STEPS < length steps
IsFirstWrong steps (StepIsWrong at flaw) = (length steps ≤ MOST_STEPS) × (first_flaw steps ≡ Some at)
IsFirstWrong steps (Circle begin end) = (length steps ≤ MOST_STEPS) × (first_flaw steps ≡ None) × (first_circle steps ≡ Some begin)
