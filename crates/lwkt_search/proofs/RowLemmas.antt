use Rattle.std.proofs.Common.{◌≡◌, ◌≢◌, ◌⊎◌, ℕ, ◌+◌, ◌<◌, ◌≤◌, List, [], ◌∷◌, ◌++◌, length, arith, subst, sym, refl, ◌∙◌, below_more, length-append, ap, slice_index_or, slice_set, inl, inr, replicate, get_or-set_other, get_or-set_same, All, Bool, IsTrue}
use Rattle.std.proofs.lemmas.List.{get_or_append_left, get_or_push, get_or_default, get_or-replicate, length-replicate, length-set}
use Rattle.lwkt_search.specs.declared.rows.TheConstants.{UNTRIED, LAST}
use Rattle.lwkt_search.specs.declared.searches.Layer.{Layer}
use Rattle.lwkt_search.specs.Runs.{IsLast, IsQuiet}
use Rattle.lwkt_search.specs.Links.{Link, link_by}
use Rattle.lwkt_search.specs.Rows.{IsAmong}
use Rattle.lwkt_search.specs.Graphs.{Node, node_at, nodes_of, IsSeen, IsNew, IsTurned, IsTried, IsGraphOf, IsFullOf, IsSearchOf, IsTurnAt, IsInRow, IsWithin, IsNoted, IsGrown, AreWithin, IsLayer, Grows, GrowsFrom}
use Rattle.lwkt_search.proofs.GraphLemmas.{begin_search, grows_push, pushed_at, push_search, last_turn, next_search}
use Rattle.lwkt_search.proofs.LinkLemmas.{depth_is}
use Rattle.lwkt_search.proofs.NodeLemmas.{node_by, nodes_long, nodes_push, node_state, node_depth}
use Rattle.lwkt_search.proofs.RunLemmas.{same_place}

-- where a turn leads stays so where more states are found
pub turn_same : {S : Type 0} (turn : S → ℕ → S) (start : S) (nodes new : List (Node S)) (at cpu next : ℕ) → Grows start nodes new → at < length nodes → IsTurnAt turn start nodes at cpu next → IsTurnAt turn start new at cpu next
turn_same {S} turn start nodes new at cpu next grows there is =
    let here : node_at start new at ≡ node_at start nodes at = grows.same at there in
    let on : node_at start new next ≡ node_at start nodes next = grows.same next is.there in
    let L : Node S → Type 0 = λ y. (node_at start new next).state ≡ turn y.state cpu in
    let M : Node S → Type 0 = λ y. y.state ≡ turn (node_at start nodes at).state cpu in
    let D : Node S → Type 0 = λ y. (node_at start new next).depth ≤ y.depth + 1 in
    let E : Node S → Type 0 = λ y. y.depth ≤ (node_at start nodes at).depth + 1 in
    record {
      there = omega (arith, is.there, grows.longer);
      leads = subst L (sym here) (subst M (sym on) is.leads);
      depth = subst D (sym here) (subst E (sym on) is.depth);
    }

-- and a row stays one
pub row_same : {S : Type 0} (turn : S → ℕ → S) (start : S) (nodes new : List (Node S)) (row : List ℕ) (at cpu : ℕ) → Grows start nodes new → at < length nodes → IsInRow turn start nodes row at cpu → IsInRow turn start new row at cpu
row_same turn start nodes new row at cpu grows there is = λ tried. turn_same turn start nodes new at cpu (slice_index_or row cpu 0) grows there (is tried)

-- a row begins with no turn tried
pub row_begun : {S : Type 0} (turn : S → ℕ → S) (start : S) (cpus : ℕ) (nodes : List (Node S)) (row : List ℕ) (at : ℕ) → IsSearchOf turn start cpus nodes at → length nodes ≤ UNTRIED → row ≡ replicate cpus UNTRIED → IsWithin turn start cpus nodes row at
row_begun turn start cpus nodes row at search small begun = record {
  search = search;
  small = small;
  long = ap (λ (xs : List ℕ). length xs) begun ∙ length-replicate {A = ℕ} cpus UNTRIED;
  turned = λ cpu below tried. absurd (tried (ap (λ (xs : List ℕ). slice_index_or xs cpu 0) begun ∙ get_or-replicate {A = ℕ} cpus cpu UNTRIED 0 below));
}

pub same_or_not : (i j : ℕ) → (i ≡ j) ⊎ (i ≢ j)
same_or_not i j = grind arith

under_or_over : (i j : ℕ) → (i < j) ⊎ (j ≤ i)
under_or_over i j = grind arith

-- one more turn in the row of the state that the search goes on from
pub row_set : {S : Type 0} (turn : S → ℕ → S) (start : S) (cpus : ℕ) (nodes new : List (Node S)) (row row' : List ℕ) (at cpu place : ℕ) → Grows start nodes new → at < length nodes → cpu < cpus → length new ≤ UNTRIED → IsSearchOf turn start cpus new at → IsWithin turn start cpus nodes row at → IsTurnAt turn start new at cpu place → row' ≡ slice_set row cpu place → IsWithin turn start cpus new row' at
row_set {S} turn start cpus nodes new row row' at cpu place grows there below small search was is set =
    let list : List ℕ = slice_set row cpu place in
    let long : length list ≡ length row = length-set row cpu place in
    let inside : cpu < length row = omega (arith, was.long) in
    let F : List ℕ → Type 0 = λ xs. IsWithin turn start cpus new xs at in
    let T : ℕ → Type 0 = λ n. n ≢ UNTRIED → IsTurnAt turn start new at cpu n in
    let here : slice_index_or list cpu 0 ≡ place = get_or-set_same row cpu place 0 inside in
    subst F (sym set) (record {
      search = search;
      small = small;
      long = long ∙ was.long;
      turned = λ c c_below. elim (same_or_not c cpu) [
        | inl same ↦
            let R : ℕ → Type 0 = λ j. IsInRow turn start new list at j in
            subst R (sym same) (subst T (sym here) (λ tried. is))
        | inr differs ↦
            let U : ℕ → Type 0 = λ n. n ≢ UNTRIED → IsTurnAt turn start new at c n in
            subst U (sym (get_or-set_other row cpu c place 0 differs)) (row_same turn start nodes new row at c grows there (was.turned c c_below))
      ];
    })

-- no node more, and one more
pub grows_none : {S : Type 0} (start : S) (at : ℕ) (nodes : List (Node S)) → GrowsFrom start at nodes nodes
grows_none start at nodes = record {
  grows = record { longer = omega arith; same = λ k h. refl };
  deeper = λ k more less. absurd (omega arith);
}

pub grows_one : {S : Type 0} (start : S) (at : ℕ) (nodes : List (Node S)) (x : Node S) → x.depth ≡ (node_at start nodes at).depth + 1 → GrowsFrom start at nodes (nodes ++ x ∷ [])
grows_one {S} start at nodes x depth =
    let list : List (Node S) = nodes ++ x ∷ [] in
    let long : length list ≡ length nodes + 1 = length-append nodes (x ∷ []) in
    let F : ℕ → Type 0 = λ k. (node_at start list k).depth ≡ (node_at start nodes at).depth + 1 in
    record {
      grows = grows_push start nodes x;
      deeper = λ k more less.
          let is : length nodes ≡ k = omega (arith, long) in
          subst F is (ap (λ (y : Node S). y.depth) (pushed_at start nodes x) ∙ depth);
    }

-- nodes more, and nodes more again
pub grows_on : {S : Type 0} (start : S) (at : ℕ) (one two three : List (Node S)) → at < length one → GrowsFrom start at one two → GrowsFrom start at two three → GrowsFrom start at one three
grows_on {S} start at one two three there p q =
    let longer : length one ≤ length two = p.grows.longer in
    let again : length two ≤ length three = q.grows.longer in
    record {
      grows = record {
        longer = omega arith;
        same = λ k h. let h2 : k < length two = omega arith in q.grows.same k h2 ∙ p.grows.same k h;
      };
      deeper = λ k more less. elim (under_or_over k (length two)) [
        | inl h ↦ ap (λ (y : Node S). y.depth) (q.grows.same k h) ∙ p.deeper k more h
        | inr h ↦ q.deeper k h less ∙ ap (λ (y : Node S). y.depth + 1) (p.grows.same at there)
      ];
    }

-- what is noted of states stays so where more states are found
pub noted_same : {S : Type 0} (turn : S → ℕ → S) (ended : S → Type 0) (start : S) (cpus : ℕ) (nodes new : List (Node S)) (was_whole is_whole : Bool) (onward at : ℕ) → Grows start nodes new → at < length nodes → (IsTrue is_whole → IsTrue was_whole) → IsNoted turn ended start cpus nodes was_whole onward at → IsNoted turn ended start cpus new is_whole onward at
noted_same {S} turn ended start cpus nodes new was_whole is_whole onward at grows there less is =
    let here : node_at start new at ≡ node_at start nodes at = grows.same at there in
    let L : Node S → Type 0 = λ y. IsLast turn ended cpus y.state in
    record {
      last = λ so. subst L (sym here) (is.last so);
      other = λ so whole last. is.other so (less whole) (subst L here last);
      leads = λ so. elim (is.leads so) [
        | inl same ↦ inl same
        | inr to ↦ inr (record { cpu = to.cpu; below = to.below; turned = turn_same turn start nodes new at to.cpu onward grows there to.turned })
      ];
    }

pub tried_same : {S : Type 0} (turn : S → ℕ → S) (start : S) (nodes new : List (Node S)) (at cpu : ℕ) → Grows start nodes new → at < length nodes → IsTried turn (length nodes) (node_at start nodes) (node_at start nodes at) cpu → IsTried turn (length new) (node_at start new) (node_at start new at) cpu
tried_same turn start nodes new at cpu grows there is =
    let t : IsTurnAt turn start nodes at cpu is.place = record { there = is.there; leads = is.leads; depth = is.depth } in
    let u : IsTurnAt turn start new at cpu is.place = turn_same turn start nodes new at cpu is.place grows there t in
    record { place = is.place; there = u.there; leads = u.leads; depth = u.depth }

pub grown_same : {S : Type 0} (turn : S → ℕ → S) (ended : S → Type 0) (start : S) (cpus : ℕ) (nodes new : List (Node S)) (onward : List ℕ) (is_whole : Bool) (at : ℕ) → Grows start nodes new → IsSearchOf turn start cpus new at → length new ≤ UNTRIED → IsGrown turn ended start cpus nodes onward is_whole at → IsGrown turn ended start cpus new onward is_whole at
grown_same turn ended start cpus nodes new onward is_whole at grows search small was =
    let within : at ≤ length nodes = was.search.within in
    record {
      search = search;
      small = small;
      long = was.long;
      noted = λ i h. let there : i < length nodes = omega arith in noted_same turn ended start cpus nodes new is_whole is_whole (slice_index_or onward i 0) i grows there (λ so. so) (was.noted i h);
      tried = λ so i h cpu below. let there : i < length nodes = omega arith in tried_same turn start nodes new i cpu grows there (was.tried so i h cpu below);
    }

-- a turn that leads back to its state doesn't change it
pub stays : {S : Type 0} (turn : S → ℕ → S) (start : S) (nodes : List (Node S)) (at cpu next : ℕ) → IsTurnAt turn start nodes at cpu next → next ≡ at → turn (node_at start nodes at).state cpu ≡ (node_at start nodes at).state
stays {S} turn start nodes at cpu next is same =
    let P : ℕ → Type 0 = λ n. (node_at start nodes n).state ≡ turn (node_at start nodes at).state cpu in
    sym (subst P same is.leads)

-- one that leads to another place does
pub moves : {S : Type 0} (turn : S → ℕ → S) (start : S) (cpus : ℕ) (nodes : List (Node S)) (at cpu next : ℕ) → IsGraphOf turn start cpus nodes → at < length nodes → cpu < cpus → IsTurnAt turn start nodes at cpu next → next ≢ at → IsQuiet turn cpus (node_at start nodes at).state → ⊥
moves turn start cpus nodes at cpu next graph there below is other quiet =
    other (same_place turn start cpus (length nodes) (node_at start nodes) next at graph is.there there (is.leads ∙ quiet cpu below))

-- what is noted of the state that the search goes on from, by its row
pub noted_now : {S : Type 0} (turn : S → ℕ → S) (ended : S → Type 0) (start : S) (cpus : ℕ) (nodes : List (Node S)) (is_whole : Bool) (row : List ℕ) (at onward : ℕ) (state : S) → IsWithin turn start cpus nodes row at → at < length nodes → (node_at start nodes at).state ≡ state → (onward ≡ LAST → ended state ⊎ All (λ n. n ≡ at) row) → (onward ≢ LAST → ended state → ⊥) → (onward ≢ LAST → All (λ n. n ≡ at) row → ⊥) → (onward ≢ LAST → IsAmong row at onward) → (IsTrue is_whole → All (λ n. n ≢ UNTRIED) row) → IsNoted turn ended start cpus nodes is_whole onward at
noted_now {S} turn ended start cpus nodes is_whole row at onward state was there same last going moving among tried =
    let small : length nodes ≤ UNTRIED = was.small in
    let long : length row ≡ cpus = was.long in
    record {
      last = λ so. elim (last so) [
        | inl over ↦ inl (subst ended (sym same) over)
        | inr still ↦ inr (λ cpu below.
            let inside : cpu < length row = omega arith in
            let back : slice_index_or row cpu 0 ≡ at = still cpu 0 inside in
            let made : slice_index_or row cpu 0 ≢ UNTRIED = omega arith in
            stays turn start nodes at cpu (slice_index_or row cpu 0) (was.turned cpu below made) back)
      ];
      other = λ so whole is. elim is [
        | inl over ↦ going so (subst ended same over)
        | inr quiet ↦ moving so (λ i d h.
            let below : i < cpus = omega arith in
            let made : slice_index_or row i 0 ≢ UNTRIED = tried whole i 0 h in
            get_or_default row i d 0 h ∙ elim (same_or_not (slice_index_or row i 0) at) [
              | inl back ↦ back
              | inr on ↦ absurd (moves turn start cpus nodes at i (slice_index_or row i 0) was.search.graph there below (was.turned i below made) on quiet)
            ])
      ];
      leads = λ so. elim (among so) [
        | inl own ↦ inl own
        | inr has ↦
            let below : has.cpu < cpus = omega (arith, has.below) in
            let made : slice_index_or row has.cpu 0 ≢ UNTRIED = λ none. so (sym has.is ∙ none) in
            let T : ℕ → Type 0 = λ n. IsTurnAt turn start nodes at has.cpu n in
            inr (record { cpu = has.cpu; below = below; turned = subst T has.is (was.turned has.cpu below made) })
      ];
    }

-- the search goes on from the next state
pub grown_on : {S : Type 0} (turn : S → ℕ → S) (ended : S → Type 0) (start : S) (cpus : ℕ) (nodes : List (Node S)) (onward onward' : List ℕ) (was_whole is_whole : Bool) (row : List ℕ) (at next : ℕ) → IsGrown turn ended start cpus nodes onward was_whole at → IsWithin turn start cpus nodes row at → at < length nodes → onward' ≡ onward ++ next ∷ [] → (IsTrue is_whole → IsTrue was_whole) → (IsTrue is_whole → All (λ n. n ≢ UNTRIED) row) → IsNoted turn ended start cpus nodes is_whole next at → IsGrown turn ended start cpus nodes onward' is_whole (at + 1)
grown_on {S} turn ended start cpus nodes onward onward' was_whole is_whole row at next was within there pushed less tried here =
    let list : List ℕ = onward ++ next ∷ [] in
    let long : length list ≡ length onward + 1 = length-append onward (next ∷ []) in
    let P : ℕ → Type 0 = λ i. IsNoted turn ended start cpus nodes is_whole (slice_index_or list i 0) i in
    let Q : ℕ → Type 0 = λ i. (cpu : ℕ) → cpu < cpus → IsTried turn (length nodes) (node_at start nodes) (node_at start nodes i) cpu in
    let F : List ℕ → Type 0 = λ xs. IsGrown turn ended start cpus nodes xs is_whole (at + 1) in
    let N : ℕ → Type 0 = λ n. IsNoted turn ended start cpus nodes is_whole n at in
    subst F (sym pushed) (record {
      search = next_search turn start cpus (length nodes) (node_at start nodes) at within.search there;
      small = within.small;
      long = omega (arith, long, was.long);
      noted =
          below_more P at
          (λ i h.
          let inside : i < length onward = omega (arith, was.long) in
          let in_nodes : i < length nodes = omega arith in
          let stay : Grows start nodes nodes = record { longer = omega arith; same = λ j g. refl } in
          let M : ℕ → Type 0 = λ n. IsNoted turn ended start cpus nodes is_whole n i in
          subst M (sym (get_or_append_left onward (next ∷ []) 0 i inside)) (noted_same turn ended start cpus nodes nodes was_whole is_whole (slice_index_or onward i 0) i stay in_nodes less (was.noted i h)))
          (subst N (sym (get_or_push onward next 0 at was.long)) here);
      tried = λ so. below_more Q at (was.tried (less so)) (λ cpu below.
          let inside : cpu < length row = omega (arith, within.long) in
          let is : IsTurnAt turn start nodes at cpu (slice_index_or row cpu 0) = within.turned cpu below (tried so cpu 0 inside) in
          record { place = slice_index_or row cpu 0; there = is.there; leads = is.leads; depth = is.depth });
    })

-- a list of the start alone
pub begin_grown : {S : Type 0} (turn : S → ℕ → S) (ended : S → Type 0) (start : S) (cpus : ℕ) (kept : List S) (links : List Link) (onward : List ℕ) (is_whole : Bool) → kept ≡ start ∷ [] → links ≡ (record { parent = 0; cpu = 0; depth = 0 }) ∷ [] → onward ≡ [] → IsGrown turn ended start cpus (nodes_of kept links) onward is_whole 0
begin_grown {S} turn ended start cpus kept links onward is_whole first one none =
    let F : List S → Type 0 = λ xs. IsSearchOf turn start cpus (nodes_of xs links) 0 in
    let G : List Link → Type 0 = λ ls. IsSearchOf turn start cpus (nodes_of (start ∷ []) ls) 0 in
    let single : length kept ≡ 1 = ap (λ (xs : List S). length xs) first in
    let count : length links ≡ 1 = ap (λ (xs : List Link). length xs) one in
    let few : length links ≤ length kept = omega arith in
    let nodes : length (nodes_of kept links) ≡ length links = nodes_long kept links few in
    record {
      search = subst F (sym first) (subst G (sym one) (begin_search turn start cpus));
      small = omega arith;
      long = ap (λ (xs : List ℕ). length xs) none;
      noted = λ i h. absurd (omega arith);
      tried = λ so i h. absurd (omega arith);
    }

-- once each turn was tried, the search is full
pub is_full : {S : Type 0} (turn : S → ℕ → S) (ended : S → Type 0) (start : S) (cpus : ℕ) (nodes : List (Node S)) (onward : List ℕ) (is_whole : Bool) (gone_on : ℕ) → IsGrown turn ended start cpus nodes onward is_whole gone_on → gone_on ≡ length nodes → IsTrue is_whole → IsFullOf turn start cpus nodes
is_full turn ended start cpus nodes onward is_whole gone_on grown each whole = record {
  graph = grown.search.graph;
  done = λ i h cpu below. let less : i < gone_on = omega arith in grown.tried whole i less cpu below;
}

-- the layer of the first state alone
pub layer_begun : {S : Type 0} (start : S) (nodes : List (Node S)) → length nodes ≡ 1 → (node_at start nodes 0).depth ≡ 0 → IsLayer start nodes 0 1 0
layer_begun start nodes one level = record {
  within = omega arith;
  there = omega arith;
  here = λ k more less.
      let D : ℕ → Type 0 = λ j. (node_at start nodes j).depth ≡ 0 in
      let is : 0 ≡ k = omega arith in
      subst D is level;
  behind = λ k more less. absurd (omega arith);
}

-- the layer that begins at the end of one
pub layer_next : {S : Type 0} (start : S) (nodes : List (Node S)) (depth end at : ℕ) → IsLayer start nodes depth end at → at < length nodes → end ≤ at → IsLayer start nodes (depth + 1) (length nodes) at
layer_next start nodes depth end at was there over = record {
  within = omega arith;
  there = omega arith;
  here = λ k more less. let above : end ≤ k = omega arith in was.behind k above less;
  behind = λ k more less. absurd (omega arith);
}

pub layer_moved : {S : Type 0} (start : S) (nodes : List (Node S)) (was now : Layer) (at count : ℕ) → IsLayer start nodes was.depth was.end at → at < length nodes → count ≡ length nodes → (at < was.end → now ≡ was) → (was.end ≤ at → now ≡ record { depth = was.depth + 1; begin = at; end = count }) → IsLayer start nodes now.depth now.end at × (at < now.end)
layer_moved {S} start nodes was now at count is there counted same next =
    let F : Layer → Type 0 = λ l. IsLayer start nodes l.depth l.end at × (at < l.end) in
    let G : ℕ → Type 0 = λ n. IsLayer start nodes (was.depth + 1) n at × (at < n) in
    elim (under_or_over at was.end) [
      | inl h ↦ subst F (sym (same h)) (is, h)
      | inr h ↦ subst F (sym (next h)) (subst G (sym counted) (layer_next start nodes was.depth was.end at is there h, there))
    ]

-- a layer is no deeper than it has states before it
pub layer_small : {S : Type 0} (turn : S → ℕ → S) (start : S) (cpus : ℕ) (nodes : List (Node S)) (depth end at : ℕ) → IsSearchOf turn start cpus nodes at → length nodes ≤ UNTRIED → IsLayer start nodes depth end at → at < length nodes → depth < UNTRIED
layer_small turn start cpus nodes depth end at search small was there =
    let shallow : (node_at start nodes at).depth ≤ at = search.graph.shallow at there in
    elim (under_or_over at end) [
      | inl h ↦ let low : at ≤ at = omega arith in let own : (node_at start nodes at).depth ≡ depth = was.here at low h in omega arith
      | inr h ↦ let own : (node_at start nodes at).depth ≡ depth + 1 = was.behind at h there in omega arith
    ]

-- states that are found from one of a layer stand behind it
pub layer_grows : {S : Type 0} (start : S) (nodes new : List (Node S)) (depth end at : ℕ) → IsLayer start nodes depth end at → at < end → GrowsFrom start at nodes new → IsLayer start new depth end at
layer_grows {S} start nodes new depth end at was inside from =
    let there : end ≤ length nodes = was.there in
    let own : (node_at start nodes at).depth ≡ depth = let low : at ≤ at = omega arith in was.here at low inside in
    record {
      within = was.within;
      there = omega (arith, from.grows.longer);
      here = λ k more less. let h : k < length nodes = omega arith in ap (λ (y : Node S). y.depth) (from.grows.same k h) ∙ was.here k more less;
      behind = λ k more less. elim (under_or_over k (length nodes)) [
        | inl h ↦ ap (λ (y : Node S). y.depth) (from.grows.same k h) ∙ was.behind k more h
        | inr h ↦ from.deeper k h less ∙ ap (λ n. n + 1) own
      ];
    }

pub layer_step : {S : Type 0} (start : S) (nodes : List (Node S)) (depth end at : ℕ) → IsLayer start nodes depth end at → at < end → IsLayer start nodes depth end (at + 1)
layer_step start nodes depth end at was inside = record {
  within = omega arith;
  there = was.there;
  here = λ k more less. let above : at ≤ k = omega arith in was.here k above less;
  behind = was.behind;
}

-- how deep states are where more are found
pub within_same : {S : Type 0} (turns : ℕ) (start : S) (nodes new : List (Node S)) (at : ℕ) → Grows start nodes new → at ≤ length nodes → AreWithin turns start nodes at → AreWithin turns start new at
within_same {S} turns start nodes new at grows there was = λ k h.
    let inside : k < length nodes = omega arith in
    let same : (node_at start new k).depth ≡ (node_at start nodes k).depth = ap (λ (y : Node S). y.depth) (grows.same k inside) in
    omega (arith, same, was k h)

pub within_more : {S : Type 0} (turns : ℕ) (start : S) (nodes : List (Node S)) (at : ℕ) → AreWithin turns start nodes at → (node_at start nodes at).depth ≤ turns → AreWithin turns start nodes (at + 1)
within_more turns start nodes at was here = λ k h. below_more (λ k. (node_at start nodes k).depth ≤ turns) at was here k h

-- a turn leads to a state that was kept before exactly if that one's number is below their number
pub turned_low : {S : Type 0} (turn : S → ℕ → S) (old new : List S) (at cpu place : ℕ) → IsTurned turn old new at cpu place → place < length old → IsSeen turn old new at cpu place
turned_low turn old new at cpu place (inl seen) low = seen
turned_low turn old new at cpu place (inr fresh) low = let last = fresh.last in absurd (omega arith)

pub turned_last : {S : Type 0} (turn : S → ℕ → S) (old new : List S) (at cpu place : ℕ) → IsTurned turn old new at cpu place → length old ≤ place → IsNew turn old new at cpu place
turned_last turn old new at cpu place (inl seen) high = let there = seen.there in absurd (omega arith)
turned_last turn old new at cpu place (inr fresh) high = fresh

-- a turn that leads to a state that was kept before
pub seen_row : {S : Type 0} (turn : S → ℕ → S) (start : S) (cpus : ℕ) (old new : List S) (links : List Link) (row row' : List ℕ) (at cpu place : ℕ) → IsWithin turn start cpus (nodes_of old links) row at → length links ≡ length old → at < length links → cpu < cpus → IsSeen turn old new at cpu place → row' ≡ slice_set row cpu place → IsWithin turn start cpus (nodes_of new links) row' at × GrowsFrom start at (nodes_of old links) (nodes_of new links)
seen_row {S} turn start cpus old new links row row' at cpu place was long there below seen set =
    let nodes : List (Node S) = nodes_of old links in
    let few : length links ≤ length old = omega arith in
    let count : length nodes ≡ length links = nodes_long old links few in
    let stay : Grows start nodes nodes = record { longer = omega arith; same = λ j h. refl } in
    let place_in : place < length links = omega (arith, long, seen.there) in
    let inside : place < length nodes = omega (arith, count, place_in) in
    let here : at < length nodes = omega (arith, count) in
    let one : (node_at start nodes place).state ≡ slice_index_or old place start = node_state start old links place few place_in in
    let other : (node_at start nodes at).state ≡ slice_index_or old at start = node_state start old links at few there in
    let is : IsTurnAt turn start nodes at cpu place = record {
      there = inside;
      leads = one ∙ (seen.leads start ∙ ap (λ (s : S). turn s cpu) (sym other));
      depth = was.search.near place inside here;
    }
    in
    let F : List S → Type 0 = λ xs. IsWithin turn start cpus (nodes_of xs links) row' at × GrowsFrom start at nodes (nodes_of xs links) in
    subst F (sym seen.same) (row_set turn start cpus nodes nodes row row' at cpu place stay here below was.small was.search was is set, grows_none start at nodes)

-- a turn that leads to a new state
pub new_row : {S : Type 0} (turn : S → ℕ → S) (start : S) (cpus : ℕ) (old new : List S) (links links' : List Link) (row row' : List ℕ) (at cpu place : ℕ) → IsWithin turn start cpus (nodes_of old links) row at → length links ≡ length old → at < length links → cpu < cpus → place < UNTRIED → IsNew turn old new at cpu place → links' ≡ links ++ link_by links at cpu ∷ [] → row' ≡ slice_set row cpu place → IsWithin turn start cpus (nodes_of new links') row' at × GrowsFrom start at (nodes_of old links) (nodes_of new links')
new_row {S} turn start cpus old new links links' row row' at cpu place was long there below small_place is grown set =
    let nodes : List (Node S) = nodes_of old links in
    let link : Link = link_by links at cpu in
    let x : Node S = node_by is.state link in
    let list : List (Node S) = nodes ++ x ∷ [] in
    let few : length links ≤ length old = omega arith in
    let count : length nodes ≡ length links = nodes_long old links few in
    let here : at < length nodes = omega (arith, count) in
    let last : place ≡ length nodes = omega (arith, count, long, is.last) in
    let more : length list ≡ length nodes + 1 = length-append nodes (x ∷ []) in
    let small : length list ≤ UNTRIED = omega arith in
    let at_state : (node_at start nodes at).state ≡ slice_index_or old at start = node_state start old links at few there in
    let at_depth : (node_at start nodes at).depth ≡ (slice_index_or links at link).depth = node_depth start old links at link few there in
    let state : x.state ≡ turn (node_at start nodes at).state cpu = is.leads start ∙ ap (λ (s : S). turn s cpu) (sym at_state) in
    let depth : x.depth ≡ (node_at start nodes at).depth + 1 = depth_is links at link there ∙ ap (λ n. n + 1) (sym at_depth) in
    let search : IsSearchOf turn start cpus list at = push_search turn start cpus nodes x at cpu was.search here below state refl refl depth (λ k h e.
    let in_links : k < length links = omega (arith, count, h) in
    let under : k < length old = omega arith in
    is.fresh k under start (sym (node_state start old links k few in_links) ∙ e))
    in
    let P : ℕ → Type 0 = λ n. IsTurnAt turn start list at cpu n in
    let F : List (Node S) → Type 0 = λ xs. IsWithin turn start cpus xs row' at × GrowsFrom start at nodes xs in
    let G : List S → Type 0 = λ xs. F (nodes_of xs links') in
    let H : List Link → Type 0 = λ ls. F (nodes_of (old ++ is.state ∷ []) ls) in
    subst G (sym is.grown) (subst H (sym grown) (subst F (sym (nodes_push old links is.state link long)) (row_set turn start cpus nodes list row row' at cpu place (grows_push start nodes x) here below small search was (subst P (sym last) (last_turn turn start nodes x at cpu here state depth)) set, grows_one start at nodes x depth)))
