-- The states that a search found, as a graph.
use Rattle.std.specs.Prelude.{◌≡◌, ◌≢◌, ℕ, ◌+◌, ◌<◌, ◌≤◌, ◌⊎◌, List, [], ◌∷◌, ◌++◌, length, slice_index_or, All, Bool, IsTrue}
use Rattle.lwkt_search.specs.declared.rows.TheConstants.{UNTRIED, LAST}
use Rattle.lwkt_search.specs.declared.searches.Growth.{Growth}
use Rattle.lwkt_search.specs.Links.{Link}
use Rattle.lwkt_search.specs.Runs.{Told, run, IsOrder, IsOutcome, IsLast, IsShortest, HasOutcome, AreApart}

-- a turn leads to a state that was kept before
pub record IsSeen {S : Type 0} (turn : S → ℕ → S) (old new : List S) (at cpu next : ℕ) : Type 0 where
  pub same : new ≡ old
  pub there : next < length old
  pub leads : (d : S) → slice_index_or old next d ≡ turn (slice_index_or old at d) cpu

-- a turn leads to a new state, which comes last
pub record IsNew {S : Type 0} (turn : S → ℕ → S) (old new : List S) (at cpu next : ℕ) : Type 0 where
  pub state : S
  pub grown : new ≡ old ++ state ∷ []
  pub last : next ≡ length old
  pub leads : (d : S) → state ≡ turn (slice_index_or old at d) cpu
  pub fresh : (k : ℕ) → k < length old → (d : S) → slice_index_or old k d ≡ state → ⊥

-- where a turn leads from the state of a number, and what is kept then
abbrev pub IsTurned : {S : Type 0} → (S → ℕ → S) → List S → List S → ℕ → ℕ → ℕ → Type 0
IsTurned turn old new at cpu next = IsSeen turn old new at cpu next ⊎ IsNew turn old new at cpu next

-- a state that was found, the turn that led to it, and how many turns lead to it
pub record Node (S : Type 0) : Type 0 where
  pub state : S
  pub parent : ℕ
  pub cpu : ℕ
  pub depth : ℕ

-- the states that are kept, with what is noted of them
abbrev pub nodes_of : {S : Type 0} → List S → List Link → List (Node S)
nodes_of [] links = []
nodes_of (state ∷ states) [] = []
nodes_of (state ∷ states) (link ∷ links) = (record { state = state; parent = link.parent; cpu = link.cpu; depth = link.depth }) ∷ nodes_of states links

-- the state at a place, and the start past the end
abbrev pub node_at : {S : Type 0} → S → List (Node S) → ℕ → Node S
node_at start nodes k = slice_index_or nodes k (record { state = start; parent = 0; cpu = 0; depth = 0 })

-- the state at this place comes from one before it, by a turn of its processor
pub record IsLink {S : Type 0} (turn : S → ℕ → S) (cpus k : ℕ) (node parent : Node S) : Type 0 where
  pub before : node.parent < k
  pub cpu : node.cpu < cpus
  pub leads : node.state ≡ turn parent.state node.cpu
  pub depth : node.depth ≡ parent.depth + 1

-- the first state is the start, each further one comes from one before, and no two are the same
pub record IsGraph {S : Type 0} (turn : S → ℕ → S) (start : S) (cpus len : ℕ) (node : ℕ → Node S) : Type 0 where
  pub some : 0 < len
  pub first : (node 0).state ≡ start
  pub level : (node 0).depth ≡ 0
  pub links : (k : ℕ) → k < len → 0 < k → IsLink turn cpus k (node k) (node ((node k).parent))
  pub distinct : (i j : ℕ) → i < j → j < len → (node i).state ≡ (node j).state → ⊥
  pub shallow : (k : ℕ) → k < len → (node k).depth ≤ k

-- the turn of a processor leads from a node to a state that was found, at most one turn deeper
pub record IsTried {S : Type 0} (turn : S → ℕ → S) (len : ℕ) (node : ℕ → Node S) (from : Node S) (cpu : ℕ) : Type 0 where
  pub place : ℕ
  pub there : place < len
  pub leads : (node place).state ≡ turn from.state cpu
  pub depth : (node place).depth ≤ from.depth + 1

-- the search has gone on from each state below `at`; the states stand by their depths
pub record IsSearch {S : Type 0} (turn : S → ℕ → S) (start : S) (cpus len : ℕ) (node : ℕ → Node S) (at : ℕ) : Type 0 where
  pub graph : IsGraph turn start cpus len node
  pub within : at ≤ len
  pub rising : (i j : ℕ) → i ≤ j → j < len → (node i).depth ≤ (node j).depth
  pub near : (k : ℕ) → k < len → at < len → (node k).depth ≤ (node at).depth + 1

-- each turn from each state was tried
pub record IsFull {S : Type 0} (turn : S → ℕ → S) (start : S) (cpus len : ℕ) (node : ℕ → Node S) : Type 0 where
  pub graph : IsGraph turn start cpus len node
  pub done : (i : ℕ) → i < len → (cpu : ℕ) → cpu < cpus → IsTried turn len node (node i) cpu

-- the same of a list
abbrev pub IsGraphOf : {S : Type 0} → (S → ℕ → S) → S → ℕ → List (Node S) → Type 0
IsGraphOf turn start cpus nodes = IsGraph turn start cpus (length nodes) (node_at start nodes)

abbrev pub IsSearchOf : {S : Type 0} → (S → ℕ → S) → S → ℕ → List (Node S) → ℕ → Type 0
IsSearchOf turn start cpus nodes at = IsSearch turn start cpus (length nodes) (node_at start nodes) at

abbrev pub IsFullOf : {S : Type 0} → (S → ℕ → S) → S → ℕ → List (Node S) → Type 0
IsFullOf turn start cpus nodes = IsFull turn start cpus (length nodes) (node_at start nodes)

-- the turn of a processor leads from the state at a place to that at the next one, at most one turn deeper
pub record IsTurnAt {S : Type 0} (turn : S → ℕ → S) (start : S) (nodes : List (Node S)) (at cpu next : ℕ) : Type 0 where
  pub there : next < length nodes
  pub leads : (node_at start nodes next).state ≡ turn (node_at start nodes at).state cpu
  pub depth : (node_at start nodes next).depth ≤ (node_at start nodes at).depth + 1

-- a row has where the turn of a processor leads from the state at a place, if it was tried
abbrev pub IsInRow : {S : Type 0} → (S → ℕ → S) → S → List (Node S) → List ℕ → ℕ → ℕ → Type 0
IsInRow turn start nodes row at cpu = slice_index_or row cpu 0 ≢ UNTRIED → IsTurnAt turn start nodes at cpu (slice_index_or row cpu 0)

-- the search goes on from the state at a place, which has this row
pub record IsWithin {S : Type 0} (turn : S → ℕ → S) (start : S) (cpus : ℕ) (nodes : List (Node S)) (row : List ℕ) (at : ℕ) : Type 0 where
  pub search : IsSearchOf turn start cpus nodes at
  pub small : length nodes ≤ UNTRIED
  pub long : length row ≡ cpus
  pub turned : (cpu : ℕ) → cpu < cpus → IsInRow turn start nodes row at cpu

-- some turn leads from the state at a place to that at the next one
pub record LeadsTo {S : Type 0} (turn : S → ℕ → S) (start : S) (cpus : ℕ) (nodes : List (Node S)) (at next : ℕ) : Type 0 where
  pub cpu : ℕ
  pub below : cpu < cpus
  pub turned : IsTurnAt turn start nodes at cpu next

-- what is noted of a state that the search went on from: that it is a last one, or else where it leads on, if only to itself
pub record IsNoted {S : Type 0} (turn : S → ℕ → S) (ended : S → Type 0) (start : S) (cpus : ℕ) (nodes : List (Node S)) (is_whole : Bool) (onward at : ℕ) : Type 0 where
  pub last : onward ≡ LAST → IsLast turn ended cpus (node_at start nodes at).state
  pub other : onward ≢ LAST → IsTrue is_whole → IsLast turn ended cpus (node_at start nodes at).state → ⊥
  pub leads : onward ≢ LAST → (onward ≡ at) ⊎ LeadsTo turn start cpus nodes at onward

-- each turn from each state before a place was tried
abbrev pub AllTried : {S : Type 0} → (S → ℕ → S) → S → ℕ → List (Node S) → ℕ → Type 0
AllTried turn start cpus nodes at = (i : ℕ) → i < at → (cpu : ℕ) → cpu < cpus → IsTried turn (length nodes) (node_at start nodes) (node_at start nodes i) cpu

-- the search has gone on from each state before a place, by each turn if it is whole
pub record IsGrown {S : Type 0} (turn : S → ℕ → S) (ended : S → Type 0) (start : S) (cpus : ℕ) (nodes : List (Node S)) (onward : List ℕ) (is_whole : Bool) (at : ℕ) : Type 0 where
  pub search : IsSearchOf turn start cpus nodes at
  pub small : length nodes ≤ UNTRIED
  pub long : length onward ≡ at
  pub noted : (i : ℕ) → i < at → IsNoted turn ended start cpus nodes is_whole (slice_index_or onward i 0) i
  pub tried : IsTrue is_whole → AllTried turn start cpus nodes at

-- the search has gone on from each state
pub record IsFinished {S : Type 0} (turn : S → ℕ → S) (ended : S → Type 0) (start : S) (cpus : ℕ) (nodes : List (Node S)) (onward : List ℕ) (is_whole : Bool) (gone_on : ℕ) : Type 0 where
  pub grown : IsGrown turn ended start cpus nodes onward is_whole gone_on
  pub each : gone_on ≡ length nodes

-- at most so many turns lead to each state before a place
abbrev pub AreWithin : {S : Type 0} → ℕ → S → List (Node S) → ℕ → Type 0
AreWithin turns start nodes at = (k : ℕ) → k < at → (node_at start nodes k).depth ≤ turns

-- so many turns lead to the states from a place on and before the end of a layer, and one more to those behind
pub record IsLayer {S : Type 0} (start : S) (nodes : List (Node S)) (depth end at : ℕ) : Type 0 where
  pub within : at ≤ end
  pub there : end ≤ length nodes
  pub here : (k : ℕ) → at ≤ k → k < end → (node_at start nodes k).depth ≡ depth
  pub behind : (k : ℕ) → end ≤ k → k < length nodes → (node_at start nodes k).depth ≡ depth + 1

-- how far a search is: the states that were found, what is noted of those that it went on from, and in which layer it is
pub record IsGrowth {S K : Type 0} (turn : S → ℕ → S) (ended : S → Type 0) (start : S) (cpus turns : ℕ) (kept : List S) (growth : Growth K) : Type 0 where
  pub long : length growth.links ≡ length kept
  pub grown : IsGrown turn ended start cpus (nodes_of kept growth.links) growth.onward.items growth.is_whole growth.gone_on
  pub layer : IsLayer start (nodes_of kept growth.links) growth.layer.depth growth.layer.end growth.gone_on
  pub deep : AreWithin turns start (nodes_of kept growth.links) growth.gone_on

-- a state that was found, and an order that leads to it, as long as it is deep
pub record IsTold {S : Type 0} (turn : S → ℕ → S) (start : S) (cpus : ℕ) (nodes : List (Node S)) (at : ℕ) (outcome : Told S) : Type 0 where
  pub state : outcome.state ≡ (node_at start nodes at).state
  pub order : IsOrder cpus outcome.order
  pub leads : run turn start outcome.order ≡ (node_at start nodes at).state
  pub long : length outcome.order ≡ (node_at start nodes at).depth

-- the new list has each node of the old one at its place
pub record Grows {S : Type 0} (start : S) (old new : List (Node S)) : Type 0 where
  pub longer : length old ≤ length new
  pub same : (k : ℕ) → k < length old → node_at start new k ≡ node_at start old k

-- and what is new was found by turns from the state at a place
pub record GrowsFrom {S : Type 0} (start : S) (at : ℕ) (old new : List (Node S)) : Type 0 where
  pub grows : Grows start old new
  pub deeper : (k : ℕ) → length old ≤ k → k < length new → (node_at start new k).depth ≡ (node_at start old at).depth + 1

-- this outcome's state was found before this place
pub record IsFrom {S : Type 0} (start : S) (nodes : List (Node S)) (outcomes : List (Told S)) (at k : ℕ) : Type 0 where
  pub place : ℕ
  pub before : place < at
  pub is : (d : Told S) → (slice_index_or outcomes k d).state ≡ (node_at start nodes place).state

-- no two outcomes have the same state, and each was found before this place
pub record IsSpread {S : Type 0} (start : S) (nodes : List (Node S)) (outcomes : List (Told S)) (at : ℕ) : Type 0 where
  pub apart : AreApart outcomes
  pub from : (k : ℕ) → k < length outcomes → IsFrom start nodes outcomes at k

-- the last states before this place are outcomes
pub record IsCollected {S : Type 0} (turn : S → ℕ → S) (ended : S → Type 0) (start : S) (cpus : ℕ) (nodes : List (Node S)) (is_whole : Bool) (outcomes : List (Told S)) (at : ℕ) : Type 0 where
  pub sound : All (λ outcome. IsOutcome turn ended cpus start outcome) outcomes
  pub each : IsTrue is_whole → (k : ℕ) → k < at → IsLast turn ended cpus (node_at start nodes k).state → HasOutcome (node_at start nodes k).state outcomes
  pub shortest : IsTrue is_whole → All (λ outcome. IsShortest turn cpus start outcome) outcomes
  pub spread : IsSpread start nodes outcomes at
