-- Orders of turns, and what a search says of them.
use Rattle.std.specs.Prelude.{◌≡◌, ℕ, ◌<◌, ◌≤◌, ◌⊎◌, List, [], ◌∷◌, All, length, map, slice_index_or, Bool, IsTrue}
use Rattle.lwkt_search.specs.declared.searches.Outcome.{Outcome}

-- a state, with an order that leads to it
pub record Told (S : Type 0) : Type 0 where
  pub state : S
  pub order : List ℕ

-- what an outcome tells, by the states that are kept
abbrev pub told_of : {S : Type 0} → S → List S → Outcome → Told S
told_of start kept outcome = record { state = slice_index_or kept outcome.place start; order = outcome.order.items }

abbrev pub all_told : {S : Type 0} → S → List S → List Outcome → List (Told S)
all_told start kept outcomes = map (told_of start kept) outcomes

-- the state that an order leads to
abbrev pub run : {S : Type 0} → (S → ℕ → S) → S → List ℕ → S
run turn state [] = state
run turn state (cpu ∷ order) = run turn (turn state cpu) order

-- an order names processors below this number alone
abbrev pub IsOrder : ℕ → List ℕ → Type 0
IsOrder cpus order = All (λ cpu. cpu < cpus) order

-- no turn changes the state
abbrev pub IsQuiet : {S : Type 0} → (S → ℕ → S) → ℕ → S → Type 0
IsQuiet turn cpus state = (cpu : ℕ) → cpu < cpus → turn state cpu ≡ state

-- a state to stop at: everything has ended there, or no turn changes it
abbrev pub IsLast : {S : Type 0} → (S → ℕ → S) → (S → Type 0) → ℕ → S → Type 0
IsLast turn ended cpus state = ended state ⊎ IsQuiet turn cpus state

-- a last state that its order leads to
pub record IsOutcome {S : Type 0} (turn : S → ℕ → S) (ended : S → Type 0) (cpus : ℕ) (start : S) (outcome : Told S) : Type 0 where
  pub order : IsOrder cpus outcome.order
  pub leads : run turn start outcome.order ≡ outcome.state
  pub last : IsLast turn ended cpus outcome.state

-- no order that leads to the outcome is shorter
abbrev pub IsShortest : {S : Type 0} → (S → ℕ → S) → ℕ → S → Told S → Type 0
IsShortest turn cpus start outcome = (order : List ℕ) → IsOrder cpus order → run turn start order ≡ outcome.state → length outcome.order ≤ length order

-- the state is one of the outcomes
abbrev pub HasOutcome : {S : Type 0} → S → List (Told S) → Type 0
HasOutcome {S} state outcomes = (k : ℕ) × (k < length outcomes) × ((d : Told S) → (slice_index_or outcomes k d).state ≡ state)

-- no two outcomes have the same state
abbrev pub AreApart : {S : Type 0} → List (Told S) → Type 0
AreApart {S} outcomes = (i j : ℕ) → i < j → j < length outcomes → (d : Told S) → (slice_index_or outcomes i d).state ≡ (slice_index_or outcomes j d).state → ⊥

-- an order leads to the state
pub record CanReach {S : Type 0} (turn : S → ℕ → S) (cpus : ℕ) (start state : S) : Type 0 where
  pub order : List ℕ
  pub below : IsOrder cpus order
  pub leads : run turn start order ≡ state

-- orders lead to so many states, no two of them the same
pub record HasStates {S : Type 0} (turn : S → ℕ → S) (cpus : ℕ) (start : S) (count : ℕ) : Type 0 where
  pub state : ℕ → S
  pub reached : (k : ℕ) → k < count → CanReach turn cpus start (state k)
  pub distinct : (i j : ℕ) → i < j → j < count → state i ≡ state j → ⊥

-- orders lead to at most so many states
abbrev pub HasAtMost : {S : Type 0} → (S → ℕ → S) → ℕ → S → ℕ → Type 0
HasAtMost turn cpus start most = (count : ℕ) → HasStates turn cpus start count → count ≤ most
