-- What the search of a script's plain machine finds, and what of it is told (own).
use Rattle.std.specs.Prelude.{◌≡◌, ℕ, ◌<◌, ◌≤◌, List, All, length, None, IsTrue, IfSome, slice_index_or}
use Rattle.lwkt_plain.specs.declared.states.Plain.{Plain}
use Rattle.lwkt_plain.specs.declared.stores.Store.{Store}
use Rattle.lwkt_plain.specs.Endings.{HasEnded}
use Rattle.lwkt_plain.specs.Openings.{opened}
use Rattle.lwkt_plain.specs.Stores.{form_turn, kept, IsStore}
use Rattle.lwkt_script.specs.declared.scripts.Script.{Script}
use Rattle.lwkt_search.specs.declared.searches.Found.{Found as Searched}
use Rattle.lwkt_search.specs.declared.searches.Outcome.{Outcome as Last}
use Rattle.lwkt_search.specs.declared.searches.Task.{Task}
use Rattle.lwkt_search.specs.Graphs.{nodes_of, IsGrown}
use Rattle.lwkt_search.specs.Losses.{IsLost}
use Rattle.lwkt_search.specs.Runs.{run, all_told, told_of, HasOutcome, IsLast, IsOrder, IsOutcome, IsShortest}
use Rattle.lwkt_explore.specs.declared.explorers.Explorer.{Explorer}
use Rattle.lwkt_explore.specs.declared.outcomes.Kind.TheVariants.{Stuck}
use Rattle.lwkt_explore.specs.declared.outcomes.Outcomes.{Outcomes}
use Rattle.lwkt_explore.specs.declared.searches.Found.{Found}
use Rattle.lwkt_explore.specs.Extents.{is_complete}
use Rattle.lwkt_explore.specs.Outcomes.{AreOutcomes, AreShort, HasReport}
use Rattle.std.specs.Prelude.{true}

-- the state of the plain machine that an order of turns leads to
abbrev pub state_after : Script → List ℕ → Plain
state_after script order = run (form_turn script) (opened script) order

-- no shorter order leads to the state that this order leads to
abbrev pub IsShortestOrder : Script → List ℕ → Type 0
IsShortestOrder script order = (other : List ℕ) → IsOrder script.cpus other → state_after script other ≡ state_after script order → length order ≤ length other

-- so it is of the order of each of these
abbrev pub AreShortest : Script → Outcomes → Type 0
AreShortest script outcomes = All (λ outcome. IsShortestOrder script outcome.order.items) outcomes.all.items

-- a state to stop at: all threads have ended there that are no services, or no turn changes it
abbrev pub IsLastState : Script → ℕ → Plain → Type 0
IsLastState script cpus state = IsLast (form_turn script) (HasEnded script) cpus state

-- it is so of the state that the order of each stuck one of these leads to
abbrev pub StuckAt : (Plain → Type 0) → Script → Outcomes → Type 0
StuckAt P script outcomes = All (λ outcome. outcome.kind ≡ Stuck → P (state_after script outcome.order.items)) outcomes.all.items

-- a state that was found is one to stop at, and its order leads there
abbrev pub IsLastAt : Script → List Plain → Last → Type 0
IsLastAt script states one = IsOutcome (form_turn script) (HasEnded script) script.cpus (opened script) (told_of (opened script) states one)

-- in the state of a number a thread hasn't ended that is no service
abbrev pub IsUnended : Script → List Plain → ℕ → Type 0
IsUnended script states place = HasEnded script (slice_index_or states place (opened script)) → ⊥

-- what a search of a script's plain machine found, by orders of so many turns and with so many states at the most
pub record IsSearched (script : Script) (cpus turns bound : ℕ) (found : Searched Store) : Type 0 where
  pub store : IsStore found.growth.store
  pub noted : length found.growth.links ≡ length (kept found.growth.store)
  pub grown : IsGrown (form_turn script) (HasEnded script) (opened script) cpus (nodes_of (kept found.growth.store) found.growth.links) found.growth.onward.items found.growth.is_whole found.growth.gone_on
  pub each : found.growth.met ≡ None → found.growth.gone_on ≡ length found.growth.links
  pub whole : IsTrue found.growth.is_whole → found.growth.met ≡ None
  pub places : All (λ (one : Last). one.place < length (kept found.growth.store)) found.outcomes.items
  pub short : All (λ (one : Last). length one.order.items ≤ turns) found.outcomes.items
  pub orders : All (λ (one : Last). IsOrder cpus one.order.items) found.outcomes.items
  pub sound : All (λ one. IsOutcome (form_turn script) (HasEnded script) cpus (opened script) one) (all_told (opened script) (kept found.growth.store) found.outcomes.items)
  pub complete : IsTrue found.growth.is_whole → (order : List ℕ) → IsOrder cpus order → IsLastState script cpus (state_after script order) → HasOutcome (state_after script order) (all_told (opened script) (kept found.growth.store) found.outcomes.items)
  pub shortest : IsTrue found.growth.is_whole → All (λ one. IsShortest (form_turn script) cpus (opened script) one) (all_told (opened script) (kept found.growth.store) found.outcomes.items)

-- a task of the script's processors, what it found, and outcomes of the script whose orders are within its turns
pub record IsUnderWay (script : Script) (task : Task Explorer) (found : Searched Store) (outcomes : Outcomes) : Type 0 where
  pub is_script : task.machine.script.now ≡ script
  pub cpus : task.cpus ≡ script.cpus
  pub searched : IsSearched script task.cpus task.turns task.bound found
  pub are_outcomes : AreOutcomes script outcomes
  pub short : AreShort task.turns outcomes

-- a state is told by the report of the run along an order that leads there
pub record IsToldAt (script : Script) (outcomes : Outcomes) (state : Plain) : Type 0 where
  pub order : List ℕ
  pub leads : state_after script order ≡ state
  pub told : HasReport script order outcomes

-- each state to stop at that an order leads to is told
abbrev pub TellsAll : Script → Outcomes → Type 0
TellsAll script outcomes = (order : List ℕ) → IsOrder script.cpus order → IsLastState script script.cpus (state_after script order) → IsToldAt script outcomes (state_after script order)

-- an order leads to a state from which no order leads to an end of all threads that are no services
pub record IsLostAlong (script : Script) (cpus : ℕ) (order : List ℕ) : Type 0 where
  pub there : IsOrder cpus order
  pub lost : IsLost (form_turn script) (HasEnded script) cpus (state_after script order)

-- there is no such order
abbrev pub NoneIsLost : Script → ℕ → Type 0
NoneIsLost script cpus = (order : List ℕ) → IsLostAlong script cpus order → ⊥

-- the search says of the plain machine all that it is asked for: each state to stop at, and whether a state is lost
pub record TellsWhole (script : Script) (found : Found) : Type 0 where
  pub complete : is_complete found ≡ true
  pub all : TellsAll script found.outcomes
  pub shortest : AreShortest script found.outcomes
  pub none_lost : found.lost ≡ None → NoneIsLost script script.cpus
  pub one_lost : IfSome found.lost (λ one. IsLostAlong script script.cpus one.order.items)
