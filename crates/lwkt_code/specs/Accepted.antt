-- Which programs are accepted: those in which no way without an ask goes on for ever (own, version 3).
use Rattle.std.specs.Prelude.{◌≡◌, ◌⊎◌, suc, ℕ, ◌+◌, ◌<◌, ◌≤◌, List, [], ◌∷◌, length, Option, Some, None, slice_get}
use Rattle.lwkt_code.specs.declared.steps.Step.{Step}
use Rattle.lwkt_code.specs.declared.steps.Step.TheVariants.{Fixed, Make, Set, Fault, Unless, Goto, Count, Again, Assert}

-- where the step at a place may lead without an ask; the end leads nowhere, since a repetition without an ask is the last
abbrev pub leads_to : Option Step → ℕ → List ℕ
leads_to None at = []
leads_to (Some (Fixed ask)) at = []
leads_to (Some (Make wish places)) at = []
leads_to (Some (Set v e)) at = (at + 1) ∷ []
leads_to (Some (Fault v)) at = (at + 1) ∷ []
leads_to (Some (Unless test c to)) at = (at + 1) ∷ to ∷ []
leads_to (Some (Goto jump to)) at = to ∷ []
leads_to (Some (Count k n)) at = (at + 1) ∷ []
leads_to (Some (Again k to)) at = (at + 1) ∷ to ∷ []
leads_to (Some (Assert c n)) at = (at + 1) ∷ []

abbrev pub leads_from : List Step → ℕ → List ℕ
leads_from steps at = leads_to (slice_get steps at) at

abbrev pub IsOneOf : ℕ → List ℕ → Type 0
IsOneOf t [] = ⊥
IsOneOf t (x ∷ xs) = (t ≡ x) ⊎ IsOneOf t xs

-- no step leads out of the program
abbrev pub IsInside : List Step → Type 0
IsInside steps = (at to : ℕ) → IsOneOf to (leads_from steps at) → to ≤ length steps

-- each place has a rank, and those that it may lead to without an ask have smaller ones
abbrev pub IsRanked : List Step → (ℕ → ℕ) → Type 0
IsRanked steps rank = (at to : ℕ) → IsOneOf to (leads_from steps at) → rank to < rank at

-- a program in which no way without an ask goes on for ever
pub record IsAccepted (steps : List Step) : Type 0 where
  pub inside : IsInside steps
  pub rank : ℕ → ℕ
  pub falls : IsRanked steps rank

-- a way without an ask that goes on for ever
abbrev pub IsEndless : List Step → (ℕ → ℕ) → Type 0
IsEndless steps way = (i : ℕ) → IsOneOf (way (suc i)) (leads_from steps (way i))

-- a way without an ask: where it begins, and the places that it comes to
abbrev pub IsWay : List Step → ℕ → List ℕ → Type 0
IsWay steps from [] = Unit {0}
IsWay steps from (to ∷ way) = IsOneOf to (leads_from steps from) × IsWay steps to way

-- the last place of a way
abbrev pub last_from : ℕ → List ℕ → ℕ
last_from from [] = from
last_from from (to ∷ way) = last_from to way

-- all places of a way lie behind a place
abbrev pub AreBehind : ℕ → List ℕ → Type 0
AreBehind begin [] = Unit {0}
AreBehind begin (to ∷ way) = (begin < to) × AreBehind begin way

-- a way without an ask, over so many places at most, from a place to one that leads back to the beginning of a loop, and no earlier
pub record LeadsBack (steps : List Step) (begin from end most : ℕ) : Type 0 where
  pub way : List ℕ
  pub short : length way ≤ most
  pub behind : AreBehind begin way
  pub goes : IsWay steps from way
  pub ends : last_from from way ≡ end
  pub back : IsOneOf begin (leads_from steps end)

-- a loop without an ask: a circle of steps that begins at its first place, and comes back there from its last; of a program of 768 steps
-- it has no more places than these
abbrev pub IsCircle : List Step → ℕ → ℕ → Type 0
IsCircle steps begin end = LeadsBack steps begin begin end 770

-- in a program that is accepted no way without an ask goes on for ever
abbrev pub NoneEndless : Type 0
NoneEndless = (steps : List Step) (way : ℕ → ℕ) → IsAccepted steps → ¬ (IsEndless steps way)

-- a circle goes on for ever, so a program with one isn't accepted
abbrev pub CirclesAreEndless : Type 0
CirclesAreEndless = (steps : List Step) (begin end : ℕ) → IsCircle steps begin end → (way : ℕ → ℕ) × (way 0 ≡ begin) × IsEndless steps way
