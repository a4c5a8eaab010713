use Rattle.std.proofs.Common.{◌≡◌, ℕ, ◌+◌, ◌<◌, ◌≤◌, List, [], ◌∷◌, ◌++◌, ◌⊎◌, inl, inr, zero, suc, length, arith, ap, subst, sym, refl, ◌∙◌, below_more, length-append}
use Rattle.std.proofs.lemmas.List.{get_or_append_left}
use Rattle.std.proofs.Math.Seq.{get_or-append_seam}
use Rattle.std.proofs.lemmas.List.Elements.{All-push}
use Rattle.lwkt_search.specs.Runs.{run, CanReach, HasStates}
use Rattle.lwkt_search.specs.Graphs.{Node, node_at, IsLink, IsGraph, IsSearch, IsSearchOf, IsTurnAt, Grows}

-- a new state at the end, which the turn of a processor leads to from the state that the search goes on from
pub grown : {S : Type 0} (turn : S → ℕ → S) (start : S) (cpus len : ℕ) (node node' : ℕ → Node S) (at cpu : ℕ) → IsSearch turn start cpus len node at → at < len → cpu < cpus → ((k : ℕ) → k < len → node' k ≡ node k) → (node' len).state ≡ turn (node at).state cpu → (node' len).parent ≡ at → (node' len).cpu ≡ cpu → (node' len).depth ≡ (node at).depth + 1 → ((k : ℕ) → k < len → (node k).state ≡ (node' len).state → ⊥) → IsSearch turn start cpus (len + 1) node' at
grown {S} turn start cpus len node node' at cpu is there below same state parent cpu_is depth differs =
    let g : IsGraph turn start cpus len node = is.graph in
    let parent_is : node' ((node' len).parent) ≡ node at = ap node' parent ∙ same at there in
    let low : (node at).depth ≤ at = g.shallow at there in
    let depths : (k : ℕ) → k < len → (node' k).depth ≡ (node k).depth = λ k h. ap (λ (x : Node S). x.depth) (same k h) in
    let states : (k : ℕ) → k < len → (node' k).state ≡ (node k).state = λ k h. ap (λ (x : Node S). x.state) (same k h) in
    let at_depth : (node' at).depth ≡ (node at).depth = depths at there in
    record {
      graph = record {
        some = omega arith;
        first = states 0 g.some ∙ g.first;
        level = depths 0 g.some ∙ g.level;
        links =
            below_more (λ k. 0 < k → IsLink turn cpus k (node' k) (node' ((node' k).parent))) len
            (λ k h pos.
            let l : IsLink turn cpus k (node k) (node ((node k).parent)) = g.links k h pos in
            let before : (node k).parent < len = omega (arith, l.before, h) in
            let P : Node S → Type 0 = λ x. IsLink turn cpus k x (node' x.parent) in
            let Q : Node S → Type 0 = λ p. IsLink turn cpus k (node k) p in
            subst P (sym (same k h)) (subst Q (sym (same (node k).parent before)) l))
            (λ pos.
            let L : Node S → Type 0 = λ p. (node' len).state ≡ turn p.state (node' len).cpu in
            let C : ℕ → Type 0 = λ c. (node' len).state ≡ turn (node at).state c in
            let D : Node S → Type 0 = λ p. (node' len).depth ≡ p.depth + 1 in
            record {
              before = omega arith;
              cpu = omega arith;
              leads = subst L (sym parent_is) (subst C (sym cpu_is) state);
              depth = subst D (sym parent_is) depth;
            });
        distinct = λ i j less h e.
            below_more (λ j. (i : ℕ) → i < j → (node' i).state ≡ (node' j).state → ⊥) len
            (λ j h i less e.
            let h2 : i < len = omega arith in
            g.distinct i j less h (sym (states i h2) ∙ e ∙ states j h))
            (λ i less e. differs i less (sym (states i less) ∙ e))
            j h i less e;
        shallow =
            below_more (λ k. (node' k).depth ≤ k) len
            (λ k h. omega (arith, depths k h, g.shallow k h))
            (omega arith);
      };
      within = omega (arith, is.within);
      rising = λ i j less h.
          below_more (λ j. (i : ℕ) → i ≤ j → (node' i).depth ≤ (node' j).depth) len
          (λ j h i less.
          let h2 : i < len = omega arith in
          omega (arith, depths i h2, depths j h, is.rising i j less h))
          (λ i less.
          let h2 : i < len + 1 = omega arith in
          below_more (λ i. (node' i).depth ≤ (node' len).depth) len
          (λ i h. omega (arith, depths i h, is.near i h there, depth))
          (omega arith)
          i h2)
          j h i less;
      near = λ k h more.
          below_more (λ k. (node' k).depth ≤ (node' at).depth + 1) len
          (λ k h. omega (arith, depths k h, is.near k h there, at_depth))
          (omega (arith, depth, at_depth))
          k h;
    }

-- the search goes on from the next state
pub next_search : {S : Type 0} (turn : S → ℕ → S) (start : S) (cpus len : ℕ) (node : ℕ → Node S) (at : ℕ) → IsSearch turn start cpus len node at → at < len → IsSearch turn start cpus len node (at + 1)
next_search {S} turn start cpus len node at is there = record {
  graph = is.graph;
  within = omega arith;
  rising = is.rising;
  near = λ k h more.
      let up : at ≤ at + 1 = omega arith in
      omega (arith, is.near k h there, is.rising at (at + 1) up more);
}

-- a list that grows by one node
pub grows_push : {S : Type 0} (start : S) (nodes : List (Node S)) (x : Node S) → Grows start nodes (nodes ++ x ∷ [])
grows_push {S} start nodes x = record {
  longer = omega (arith, length-append nodes (x ∷ []));
  same = λ k h. get_or_append_left nodes (x ∷ []) (record { state = start; parent = 0; cpu = 0; depth = 0 }) k h;
}

pub pushed_at : {S : Type 0} (start : S) (nodes : List (Node S)) (x : Node S) → node_at start (nodes ++ x ∷ []) (length nodes) ≡ x
pushed_at {S} start nodes x = get_or-append_seam nodes x [] (record { state = start; parent = 0; cpu = 0; depth = 0 })

pub push_search : {S : Type 0} (turn : S → ℕ → S) (start : S) (cpus : ℕ) (nodes : List (Node S)) (x : Node S) (at cpu : ℕ) → IsSearchOf turn start cpus nodes at → at < length nodes → cpu < cpus → x.state ≡ turn (node_at start nodes at).state cpu → x.parent ≡ at → x.cpu ≡ cpu → x.depth ≡ (node_at start nodes at).depth + 1 → ((k : ℕ) → k < length nodes → (node_at start nodes k).state ≡ x.state → ⊥) → IsSearchOf turn start cpus (nodes ++ x ∷ []) at
push_search {S} turn start cpus nodes x at cpu is there below state parent cpu_is depth differs =
    let new : List (Node S) = nodes ++ x ∷ [] in
    let e : node_at start new (length nodes) ≡ x = pushed_at start nodes x in
    let long : length new ≡ length nodes + 1 = length-append nodes (x ∷ []) in
    let F : ℕ → Type 0 = λ len. IsSearch turn start cpus len (node_at start new) at in
    let st : (node_at start new (length nodes)).state ≡ x.state = ap (λ (y : Node S). y.state) e in
    subst F (sym long) (grown turn start cpus (length nodes) (node_at start nodes) (node_at start new) at cpu is there below (grows_push start nodes x).same (st ∙ state) (ap (λ (y : Node S). y.parent) e ∙ parent) (ap (λ (y : Node S). y.cpu) e ∙ cpu_is) (ap (λ (y : Node S). y.depth) e ∙ depth) (λ k h eq. differs k h (eq ∙ st)))

-- a list of the start alone
pub begin_search : {S : Type 0} (turn : S → ℕ → S) (start : S) (cpus : ℕ) → IsSearchOf turn start cpus ((record { state = start; parent = 0; cpu = 0; depth = 0 }) ∷ []) 0
begin_search {S} turn start cpus =
    let x : Node S = record { state = start; parent = 0; cpu = 0; depth = 0 } in
    let node : ℕ → Node S = node_at start (x ∷ []) in
    let one : length (x ∷ []) ≡ 1 = refl in
    let depths : (k : ℕ) → k < 1 → (node k).depth ≡ 0 = below_more (λ k. (node k).depth ≡ 0) 0 (λ k h. absurd (omega arith)) refl in
    record {
      graph = record {
        some = omega arith;
        first = refl;
        level = refl;
        links = λ k h pos. absurd (omega arith);
        distinct = λ i j less h e. absurd (omega arith);
        shallow = λ k h. omega (arith, depths k h);
      };
      within = omega arith;
      rising = λ i j less h. let h2 : i < 1 = omega arith in omega (arith, depths i h2, depths j h);
      near = λ k h more. omega (arith, depths k h);
    }

-- where the turn leads that led to the last node
pub last_turn : {S : Type 0} (turn : S → ℕ → S) (start : S) (nodes : List (Node S)) (x : Node S) (at cpu : ℕ) → at < length nodes → x.state ≡ turn (node_at start nodes at).state cpu → x.depth ≡ (node_at start nodes at).depth + 1 → IsTurnAt turn start (nodes ++ x ∷ []) at cpu (length nodes)
last_turn {S} turn start nodes x at cpu there state depth =
    let list : List (Node S) = nodes ++ x ∷ [] in
    let last : node_at start list (length nodes) ≡ x = pushed_at start nodes x in
    let old : node_at start list at ≡ node_at start nodes at = (grows_push start nodes x).same at there in
    let L : Node S → Type 0 = λ y. (node_at start list (length nodes)).state ≡ turn y.state cpu in
    let M : Node S → Type 0 = λ y. y.state ≡ turn (node_at start nodes at).state cpu in
    let D : Node S → Type 0 = λ y. (node_at start list (length nodes)).depth ≤ y.depth + 1 in
    let E : Node S → Type 0 = λ y. y.depth ≤ (node_at start nodes at).depth + 1 in
    let deep : x.depth ≤ (node_at start nodes at).depth + 1 = omega (arith, depth) in
    let long : length list ≡ length nodes + 1 = length-append nodes (x ∷ []) in
    record {
      there = omega (arith, long);
      leads = subst L (sym old) (subst M (sym last) state);
      depth = subst D (sym old) (subst E (sym last) deep);
    }

-- an order with one turn more
run_push : {S : Type 0} (turn : S → ℕ → S) (state : S) (order : List ℕ) (cpu : ℕ) → run turn state (order ++ cpu ∷ []) ≡ turn (run turn state order) cpu
run_push turn state [] cpu = refl
run_push turn state (c ∷ order) cpu = run_push turn (turn state c) order cpu

zero_or_more : (k : ℕ) → (k ≡ 0) ⊎ (0 < k)
zero_or_more k = grind arith

-- an order leads to each state of a graph
pub reaches_node : {S : Type 0} (turn : S → ℕ → S) (start : S) (cpus len : ℕ) (node : ℕ → Node S) (n k : ℕ) → IsGraph turn start cpus len node → k ≤ n → k < len → CanReach turn cpus start (node k).state
reaches_node {S} turn start cpus len node zero k g few there =
    let F : ℕ → Type 0 = λ j. CanReach turn cpus start (node j).state in
    let none : 0 ≡ k = omega arith in
    let first : F 0 = record { order = []; below = λ i d h. absurd (omega arith); leads = sym g.first } in
    subst F none first
reaches_node {S} turn start cpus len node (suc n) k g few there = elim (zero_or_more k) [
  | inl is ↦
      let low : k ≤ n = omega arith in
      reaches_node turn start cpus len node n k g low there
  | inr more ↦
      let l : IsLink turn cpus k (node k) (node ((node k).parent)) = g.links k there more in
      let before : (node k).parent < k = l.before in
      let low : (node k).parent ≤ n = omega arith in
      let in_len : (node k).parent < len = omega arith in
      let r : CanReach turn cpus start (node ((node k).parent)).state = reaches_node turn start cpus len node n (node k).parent g low in_len in
      let C : ℕ → Type 0 = λ c. c < cpus in
      let T : S → Type 0 = λ s. run turn start (r.order ++ (node k).cpu ∷ []) ≡ turn s (node k).cpu in
      let on : run turn start (r.order ++ (node k).cpu ∷ []) ≡ turn (node ((node k).parent)).state (node k).cpu = subst T r.leads (run_push turn start r.order (node k).cpu) in
      record { order = r.order ++ (node k).cpu ∷ []; below = All-push C r.order (node k).cpu r.below l.cpu; leads = on ∙ sym l.leads }
]

-- a graph has so many states
pub has_states : {S : Type 0} (turn : S → ℕ → S) (start : S) (cpus len : ℕ) (node : ℕ → Node S) (count : ℕ) → IsGraph turn start cpus len node → count ≤ len → HasStates turn cpus start count
has_states {S} turn start cpus len node count g few = record {
  state = λ k. (node k).state;
  reached = λ k h. let h2 : k < len = omega arith in let low : k ≤ k = omega arith in reaches_node turn start cpus len node k k g low h2;
  distinct = λ i j less h. let h2 : j < len = omega arith in g.distinct i j less h2;
}
