-- How loops without an ask are found: marks at the places from which a way leads back to the beginning (own).
use Rattle.std.specs.Prelude.{◌≡◌, ◌≢◌, ℕ, zero, suc, ◌+◌, ◌-◌, ◌<◌, ◌≤◌, ◌==◌, nat_lt, List, [], ◌∷◌, length, slice_index, if◌then◌else◌}
use Rattle.lwkt_code.specs.declared.steps.Step.{Step}
use Rattle.lwkt_code.specs.declared.circles.Leads.{Leads}
use Rattle.lwkt_code.specs.declared.circles.Leads.TheVariants.{Nowhere, To, Either}
use Rattle.lwkt_code.specs.Accepted.{leads_from, IsOneOf, LeadsBack, IsCircle}

-- the places that a step may lead to
abbrev pub places : Leads → List ℕ
places Nowhere = []
places (To to) = to ∷ []
places (Either one other) = one ∷ other ∷ []

-- the mark that a place gets since it leads to another one: 1 more than the place that leads back, and 0 for none
abbrev pub back_by : List ℕ → ℕ → ℕ → ℕ → ℕ
back_by marks begin at to = if to == begin then at + 1 else (if nat_lt begin to then slice_index marks to else 0)

-- the mark that a place gets: the first that it gets by a place that it leads to
abbrev pub back_of : List ℕ → ℕ → ℕ → List ℕ → ℕ
back_of marks begin at [] = 0
back_of marks begin at (to ∷ more) = if nat_lt 0 (back_by marks begin at to) then back_by marks begin at to else back_of marks begin at more

abbrev pub back_from : List Step → List ℕ → ℕ → ℕ → ℕ
back_from steps marks begin at = back_of marks begin at (leads_from steps at)

-- how many places have a mark
abbrev pub bit : ℕ → ℕ
bit zero = 0
bit (suc n) = 1

abbrev pub marked : List ℕ → ℕ
marked [] = 0
marked (m ∷ marks) = bit m + marked marks

-- each mark stands for a way that leads back, over no more places than have one
abbrev pub AreMarks : List Step → ℕ → List ℕ → Type 0
AreMarks steps begin marks = (k : ℕ) → 0 < slice_index marks k → (begin < k) × LeadsBack steps begin k (slice_index marks k - 1) (marked marks)

-- a place without a mark that gets this one
pub record IsReady (steps : List Step) (marks : List ℕ) (begin at back : ℕ) : Type 0 where
  pub behind : begin < at
  pub within : at < length steps
  pub free : slice_index marks at ≡ 0
  pub gets : back ≡ back_from steps marks begin at
  pub some : 0 < back

-- no way from a place leads back there over later ones: marks that all places behind it have that lead back, and none that it leads to
abbrev pub Opens : List Step → ℕ → Type 0
Opens steps begin = (marks : List ℕ) × ((at to : ℕ) → begin ≤ at → (at ≢ begin → slice_index marks at ≡ 0) → IsOneOf to (leads_from steps at) → (to ≢ begin) × (begin < to → slice_index marks to ≡ 0))

-- a loop without an ask, before whose beginning none begins
pub record IsFirstCircle (steps : List Step) (begin end : ℕ) : Type 0 where
  pub circle : IsCircle steps begin end
  pub within : begin < length steps
  pub before : (k : ℕ) → k < begin → Opens steps k
