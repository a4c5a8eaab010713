use Rattle.std.proofs.Common.{◌≡◌, ◌∙◌, ℕ, ◌<◌, inl, inr, List, [], ◌∷◌, length, map, get_or, All, Some, None, IsTrue, refl, sym, ap, subst, arith}
use Rattle.std.proofs.lemmas.List.{length-map, get_or-map}
use Rattle.std.proofs.lemmas.List.Elements.{All-head}
use Rattle.std.proofs.lemmas.Option.{slice_get_cases}
use Rattle.std.specs.List.{slice_get}
use Rattle.lwkt_plain.specs.declared.states.Plain.{Plain}
use Rattle.lwkt_plain.specs.declared.stores.Store.{Store}
use Rattle.lwkt_plain.specs.Deadlocks.{IsStandstill}
use Rattle.lwkt_plain.specs.Endings.{HasEnded}
use Rattle.lwkt_plain.specs.Openings.{opened}
use Rattle.lwkt_plain.specs.Stores.{form_turn, kept}
use Rattle.lwkt_script.specs.declared.scripts.Script.{Script}
use Rattle.lwkt_search.specs.declared.searches.Found.{Found as Searched}
use Rattle.lwkt_search.specs.declared.searches.Outcome.{Outcome as Last}
use Rattle.lwkt_search.specs.Losses.{IsLost, IsLostOutcome}
use Rattle.lwkt_search.specs.Runs.{Told, told_of, all_told, run, CanReach, HasOutcome, IsLast, IsQuiet, IsOrder, IsOutcome, IsShortest}
use Rattle.lwkt_explore.specs.declared.outcomes.Outcomes.{Outcomes}
use Rattle.lwkt_explore.specs.Outcomes.{HasReport}
use Rattle.lwkt_explore.specs.Searches.{state_after, IsLastAt, IsLastState, IsLostAlong, IsUnended, IsSearched, IsShortestOrder, IsToldAt, NoneIsLost, TellsAll}

-- a list without a first element has none
pub none_first : {X : Type 0} (xs : List X) → slice_get xs 0 ≡ None → length xs ≡ 0
none_first [] is = refl
none_first (x ∷ xs) is = absurd cc

-- what holds of all values of a function holds of the first one's
pub all_first : {X : Type 0} {Y : Type 0} (Q : Y → Type 0) (f : X → Y) (xs : List X) (x : X) → Some x ≡ slice_get xs 0 → All Q (map f xs) → Q (f x)
all_first {X} {Y} Q f [] x is all = absurd cc
all_first {X} {Y} Q f (y ∷ ys) x is all = let same : y ≡ x = sym (search (is)) in let F : X → Type 0 = λ z. Q (f z) in subst F same (All-head Q (f y) (map f ys) all)

-- an element of a list at a place within it
pub record IsElement {X : Type 0} (xs : List X) (k : ℕ) : Type 0 where
  pub it : X
  pub is : get_or xs k it ≡ it

pub element : {X : Type 0} (xs : List X) (k : ℕ) → k < length xs → IsElement xs k
element {X} xs k less =
    elim (slice_get_cases xs k).1 [
      | inl found ↦ record { it = found.0; is = found.3 }
      | inr past ↦ absurd (omega (arith, less, past.0))
    ]

-- where each last state that was found has its report among the outcomes, all is told, if each turn was tried
pub all_are_told : (script : Script) (cpus turns bound : ℕ) (found : Searched Store) (outcomes : Outcomes) → IsSearched script cpus turns bound found → cpus ≡ script.cpus → IsTrue found.growth.is_whole → All (λ (one : Last). HasReport script one.order.items outcomes) found.outcomes.items → TellsAll script outcomes
all_are_told script cpus turns bound found outcomes is same whole reports = λ order below last.
    let start = opened script in
    let states = kept found.growth.store in
    let ones = found.outcomes.items in
    let tell : Last → Told Plain = told_of start states in
    let C : ℕ → Type 0 = λ n. IsOrder n order in
    let L : ℕ → Type 0 = λ n. IsLastState script n (state_after script order) in
    let has : HasOutcome (state_after script order) (all_told start states ones) = is.complete whole order (subst C (sym same) below) (subst L (sym same) last) in
    let k = has.0 in
    let long : length (map tell ones) ≡ length ones = length-map ones tell in
    let less : k < length ones = omega (arith, has.1, long) in
    let one = element ones k less in
    let it : Last = one.it in
    let at : get_or (map tell ones) k (tell it) ≡ tell it = get_or-map tell ones k it (tell it) less ∙ ap tell one.is in
    let S : Told Plain → Type 0 = λ t. t.state ≡ state_after script order in
    let O : Told Plain → Type 0 = λ t. IsOutcome (form_turn script) (HasEnded script) cpus start t in
    let state : (tell it).state ≡ state_after script order = subst S at (has.2 (tell it)) in
    let outcome : IsOutcome (form_turn script) (HasEnded script) cpus start (tell it) = subst O at (is.sound k (tell it) has.1) in
    let R : Last → Type 0 = λ o. HasReport script o.order.items outcomes in
    record {
      order = it.order.items;
      leads = outcome.leads ∙ state;
      told = subst R one.is (reports k it less);
    }

-- no state is lost, if none was found
pub none_found : (script : Script) (cpus : ℕ) (states : List Plain) (lost : List Last) → ((order : List ℕ) → IsOrder cpus order → IsLost (form_turn script) (HasEnded script) cpus (state_after script order) → HasOutcome (state_after script order) (all_told (opened script) states lost)) → slice_get lost 0 ≡ None → NoneIsLost script cpus
none_found script cpus states lost complete none = λ order along.
    let tell : Last → Told Plain = told_of (opened script) states in
    let has = complete order along.there along.lost in
    let long : length (map tell lost) ≡ length lost = length-map lost tell in
    let empty : length lost ≡ 0 = none_first lost none in
    absurd (omega (arith, has.1, long, empty))

-- the first state that was found is lost
pub first_lost : (script : Script) (cpus : ℕ) (states : List Plain) (lost : List Last) (one : Last) → Some one ≡ slice_get lost 0 → All (λ t. IsLostOutcome (form_turn script) (HasEnded script) cpus (opened script) t) (all_told (opened script) states lost) → IsLostAlong script cpus one.order.items
first_lost script cpus states lost one first all =
    let Q : Told Plain → Type 0 = λ t. IsLostOutcome (form_turn script) (HasEnded script) cpus (opened script) t in
    let is : Q (told_of (opened script) states one) = all_first Q (told_of (opened script) states) lost one first all in
    let F : Plain → Type 0 = λ state. IsLost (form_turn script) (HasEnded script) cpus state in
    record { there = is.order; lost = subst F (sym is.leads) is.lost }

-- if each turn was tried, each order that was found is a shortest one to the state that it leads to
pub all_are_shortest : (script : Script) (cpus turns bound : ℕ) (found : Searched Store) → IsSearched script cpus turns bound found → cpus ≡ script.cpus → IsTrue found.growth.is_whole → All (λ (one : Last). IsShortestOrder script one.order.items) found.outcomes.items
all_are_shortest script cpus turns bound found is same whole = λ k one less.
    let start = opened script in
    let states = kept found.growth.store in
    let ones = found.outcomes.items in
    let tell : Last → Told Plain = told_of start states in
    let long : length (map tell ones) ≡ length ones = length-map ones tell in
    let below : k < length (map tell ones) = omega (arith, less, long) in
    let at : get_or (map tell ones) k (tell one) ≡ tell (get_or ones k one) = get_or-map tell ones k one (tell one) less in
    let O : Told Plain → Type 0 = λ t. IsOutcome (form_turn script) (HasEnded script) cpus start t in
    let B : Told Plain → Type 0 = λ t. IsShortest (form_turn script) cpus start t in
    let outcome : O (tell (get_or ones k one)) = subst O at (is.sound k (tell one) below) in
    let best : B (tell (get_or ones k one)) = subst B at (is.shortest whole k (tell one) below) in
    λ other order leads.
    let C : ℕ → Type 0 = λ n. IsOrder n other in
    best other (subst C (sym same) order) (leads ∙ outcome.leads)

-- each state that was found is one to stop at
pub are_last : (script : Script) (cpus turns bound : ℕ) (found : Searched Store) → IsSearched script cpus turns bound found → cpus ≡ script.cpus → All (IsLastAt script (kept found.growth.store)) found.outcomes.items
are_last script cpus turns bound found is same = λ k d less.
    let start = opened script in
    let tell : Last → Told Plain = told_of start (kept found.growth.store) in
    let ones = found.outcomes.items in
    let long : length (map tell ones) ≡ length ones = length-map ones tell in
    let L : ℕ → Type 0 = λ n. IsOutcome (form_turn script) (HasEnded script) n start (tell (get_or ones k d)) in
    let M : Told Plain → Type 0 = λ one. IsOutcome (form_turn script) (HasEnded script) cpus start one in
    subst L same (subst M (get_or-map tell ones k d (tell d) less) (is.sound k (tell d) (omega (arith, less, long))))

-- one in which a thread hasn't ended is one that no turn changes
pub still_at : (script : Script) (states : List Plain) (one : Last) (order : List ℕ) → IsLastAt script states one → order ≡ one.order.items → IsUnended script states one.place → IsStandstill script (state_after script order)
still_at script states one order is same unended =
    let state : Plain = (told_of (opened script) states one).state in
    let F : List ℕ → Type 0 = λ xs. IsStandstill script (state_after script xs) in
    let quiet : IsQuiet (form_turn script) script.cpus state = elim is.last [
      | inl over ↦ absurd (unended over)
      | inr still ↦ still
    ] in
    let S : Plain → Type 0 = λ p. IsStandstill script p in
    subst F (sym same) (subst S (sym is.leads) (record { reached = record { order = one.order.items; below = is.order; leads = is.leads }; quiet = quiet }))
