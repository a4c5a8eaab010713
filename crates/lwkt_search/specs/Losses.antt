-- States from which no end can be reached.
use Rattle.std.specs.Prelude.{◌≡◌, ℕ, ◌<◌, ◌≤◌, List, length, slice_index_or, All, Bool, true, false, IsTrue, cond}
use Rattle.lwkt_search.specs.Runs.{Told, run, IsOrder}
use Rattle.lwkt_search.specs.Graphs.{Node, node_at, nodes_of, IsSpread}
use Rattle.lwkt_search.specs.Links.{Link}

-- no order leads from the state to one where everything has ended
abbrev pub IsLost : {S : Type 0} → (S → ℕ → S) → (S → Type 0) → ℕ → S → Type 0
IsLost turn ended cpus state = (order : List ℕ) → IsOrder cpus order → ended (run turn state order) → ⊥

-- an order leads from the state to one where everything has ended
pub record CanEnd {S : Type 0} (turn : S → ℕ → S) (ended : S → Type 0) (cpus : ℕ) (state : S) : Type 0 where
  pub order : List ℕ
  pub below : IsOrder cpus order
  pub end : ended (run turn state order)

-- a state that its order leads to, and from which no order leads to an end
pub record IsLostOutcome {S : Type 0} (turn : S → ℕ → S) (ended : S → Type 0) (cpus : ℕ) (start : S) (one : Told S) : Type 0 where
  pub order : IsOrder cpus one.order
  pub leads : run turn start one.order ≡ one.state
  pub lost : IsLost turn ended cpus one.state

-- where the turn of a processor leads from a state, and what is noted there
pub record IsNext {S : Type 0} (turn : S → ℕ → S) (start : S) (nodes : List (Node S)) (reaches : List Bool) (at cpu : ℕ) (noted : Bool) : Type 0 where
  pub place : ℕ
  pub there : place < length nodes
  pub leads : (node_at start nodes place).state ≡ turn (node_at start nodes at).state cpu
  pub is : slice_index_or reaches place false ≡ noted

-- some turn leads to a state from which an end can be reached
pub record LeadsOn {S : Type 0} (turn : S → ℕ → S) (start : S) (cpus : ℕ) (nodes : List (Node S)) (reaches : List Bool) (at : ℕ) : Type 0 where
  pub cpu : ℕ
  pub below : cpu < cpus
  pub next : IsNext turn start nodes reaches at cpu true

-- what is noted holds, and each end is noted
pub record IsReaching {S : Type 0} (turn : S → ℕ → S) (ended : S → Type 0) (start : S) (cpus : ℕ) (nodes : List (Node S)) (reaches : List Bool) : Type 0 where
  pub sound : (k : ℕ) → k < length nodes → slice_index_or reaches k false ≡ true → CanEnd turn ended cpus (node_at start nodes k).state
  pub ends : (k : ℕ) → k < length nodes → ended (node_at start nodes k).state → slice_index_or reaches k false ≡ true

-- if nothing is noted at a state, nothing is noted where its turns lead
abbrev pub IsStable : {S : Type 0} → (S → ℕ → S) → S → ℕ → List (Node S) → List Bool → ℕ → Type 0
IsStable turn start cpus nodes reaches k = slice_index_or reaches k false ≡ false → (cpu : ℕ) → cpu < cpus → IsNext turn start nodes reaches k cpu false

-- that holds at each state
pub record IsSettled {S : Type 0} (turn : S → ℕ → S) (start : S) (cpus : ℕ) (nodes : List (Node S)) (reaches : List Bool) : Type 0 where
  pub stable : (k : ℕ) → k < length nodes → IsStable turn start cpus nodes reaches k

-- the states that were found keep their places where turns are made again; if each turn was tried from each, no further state is kept
pub record IsAgain {S : Type 0} (nodes : List (Node S)) (links : List Link) (is_whole : Bool) (kept : List S) : Type 0 where
  pub same : nodes_of kept links ≡ nodes
  pub room : length links ≤ length kept
  pub exact : IsTrue is_whole → length links ≡ length kept

-- 1 where nothing is noted
abbrev pub missing : Bool → ℕ
missing noted = cond noted 0 1

-- the lost states before this place are in the list
pub record IsLostList {S : Type 0} (turn : S → ℕ → S) (ended : S → Type 0) (start : S) (cpus : ℕ) (nodes : List (Node S)) (is_whole : Bool) (lost : List (Told S)) (at : ℕ) : Type 0 where
  pub sound : IsTrue is_whole → All (λ one. IsLostOutcome turn ended cpus start one) lost
  pub each : (k : ℕ) → k < at → IsLost turn ended cpus (node_at start nodes k).state → (j : ℕ) × (j < length lost) × ((d : Told S) → (slice_index_or lost j d).state ≡ (node_at start nodes k).state)
  pub spread : IsSpread start nodes lost at
