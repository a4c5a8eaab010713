use Rattle.std.proofs.Common.{◌≡◌, ◌≢◌, ◌↔◌, ℕ, ◌+◌, ◌<◌, ◌≤◌, List, [], ◌∷◌, ◌++◌, ◌⊎◌, inl, inr, length, arith, ap, subst, sym, ◌∙◌, refl, Bool, true, false, true≢false, IsTrue, below_more, slice_index_or, slice_set, sum_by, get_or-set_other, get_or-set_same, length-append}
use Rattle.std.proofs.lemmas.List.Elements.{All-head, All-tail, All-push, All-cons}
use Rattle.std.proofs.lemmas.List.Sums.{sum_by-set}
use Rattle.std.proofs.lemmas.List.{get_or_push, get_or_append_left}
use Rattle.lwkt_search.specs.Runs.{Told, run, IsOrder, IsLast, HasOutcome}
use Rattle.lwkt_search.specs.Links.{Link}
use Rattle.lwkt_search.specs.Graphs.{Node, node_at, nodes_of, AllTried, IsFullOf, IsGraphOf, IsNew, IsTurned, IsTried, IsTold}
use Rattle.lwkt_search.specs.Losses.{IsAgain, IsLost, CanEnd, IsLostOutcome, IsNext, LeadsOn, IsReaching, IsStable, IsSettled, missing, IsLostList}
use Rattle.lwkt_search.proofs.NodeLemmas.{nodes_long, nodes_more, node_state}
use Rattle.lwkt_search.proofs.RunLemmas.{IsReached, reached_from_start, has_push, has_last, spread_more, spread_less}

-- from a state where nothing is noted no order leads to an end, once that is stable
pub lost_stable : {S : Type 0} (turn : S → ℕ → S) (ended : S → Type 0) (start : S) (cpus : ℕ) (nodes : List (Node S)) (reaches : List Bool) (order : List ℕ) (i : ℕ) → IsReaching turn ended start cpus nodes reaches → IsSettled turn start cpus nodes reaches → i < length nodes → slice_index_or reaches i false ≡ false → IsOrder cpus order → ended (run turn (node_at start nodes i).state order) → ⊥
lost_stable turn ended start cpus nodes reaches [] i is settled there dark below end =
    let light : slice_index_or reaches i false ≡ true = is.ends i there end in
    cc
lost_stable {S} turn ended start cpus nodes reaches (cpu ∷ order) i is settled there dark below end =
    let C : ℕ → Type 0 = λ c. c < cpus in
    let first : cpu < cpus = All-head C cpu order below in
    let n : IsNext turn start nodes reaches i cpu false = settled.stable i there dark cpu first in
    let E : S → Type 0 = λ s. ended (run turn s order) in
    lost_stable turn ended start cpus nodes reaches order n.place is settled n.there n.is (All-tail C cpu order below) (subst E (sym n.leads) end)

same_or_not : (i j : ℕ) → (i ≡ j) ⊎ (i ≢ j)
same_or_not i j = grind arith

-- what a turn leads on to can be noted
pub set_reaching : {S : Type 0} (turn : S → ℕ → S) (ended : S → Type 0) (start : S) (cpus : ℕ) (nodes : List (Node S)) (reaches : List Bool) (at : ℕ) → IsReaching turn ended start cpus nodes reaches → LeadsOn turn start cpus nodes reaches at → at < length reaches → IsReaching turn ended start cpus nodes (slice_set reaches at true)
set_reaching {S} turn ended start cpus nodes reaches at is on there =
    let C : ℕ → Type 0 = λ c. c < cpus in
    let E : S → Type 0 = λ s. CanEnd turn ended cpus s in
    let from : CanEnd turn ended cpus (node_at start nodes on.next.place).state = is.sound on.next.place on.next.there on.next.is in
    let F : S → Type 0 = λ s. ended (run turn s from.order) in
    let here : CanEnd turn ended cpus (node_at start nodes at).state = record { order = on.cpu ∷ from.order; below = All-cons C on.cpu from.order on.below from.below; end = subst F on.next.leads from.end } in
    record {
      sound = λ k h light. elim (same_or_not k at) [
        | inl same ↦
            let G : ℕ → Type 0 = λ j. CanEnd turn ended cpus (node_at start nodes j).state in
            subst G (sym same) here
        | inr other ↦ is.sound k h (sym (get_or-set_other reaches at k true false other) ∙ light)
      ];
      ends = λ k h end. elim (same_or_not k at) [
        | inl same ↦
            let G : ℕ → Type 0 = λ j. slice_index_or (slice_set reaches at true) j false ≡ true in
            subst G (sym same) (get_or-set_same reaches at true false there)
        | inr other ↦ get_or-set_other reaches at k true false other ∙ is.ends k h end
      ];
    }

pub set_fewer : (reaches : List Bool) (at : ℕ) → at < length reaches → slice_index_or reaches at false ≡ false → sum_by missing (slice_set reaches at true) < sum_by missing reaches
set_fewer reaches at there dark =
    let e : sum_by missing (slice_set reaches at true) + missing (slice_index_or reaches at false) ≡ sum_by missing reaches + 0 = sum_by-set missing reaches at true false there in
    let one : missing (slice_index_or reaches at false) ≡ 1 = ap missing dark in
    omega arith

-- one more lost state
pub lost_more : {S : Type 0} (turn : S → ℕ → S) (ended : S → Type 0) (start : S) (cpus : ℕ) (nodes : List (Node S)) (is_whole : Bool) (lost new : List (Told S)) (at : ℕ) (last : Told S) → IsGraphOf turn start cpus nodes → at < length nodes → IsLostList turn ended start cpus nodes is_whole lost at → IsTold turn start cpus nodes at last → (IsTrue is_whole → IsLost turn ended cpus (node_at start nodes at).state) → new ≡ lost ++ last ∷ [] → IsLostList turn ended start cpus nodes is_whole new (at + 1)
lost_more {S} turn ended start cpus nodes is_whole lost new at last graph there was told dark pushed =
    let O : Told S → Type 0 = λ one. IsLostOutcome turn ended cpus start one in
    let L : S → Type 0 = λ s. IsLost turn ended cpus s in
    let E : ℕ → Type 0 = λ k. IsLost turn ended cpus (node_at start nodes k).state → HasOutcome (node_at start nodes k).state (lost ++ last ∷ []) in
    let F : List (Told S) → Type 0 = λ xs. IsLostList turn ended start cpus nodes is_whole xs (at + 1) in
    let one : IsTrue is_whole → IsLostOutcome turn ended cpus start last = λ all. record { order = told.order; leads = told.leads ∙ sym told.state; lost = subst L (sym told.state) (dark all) } in
    subst F (sym pushed) (record {
      sound = λ all. All-push O lost last (was.sound all) (one all);
      each = below_more E at (λ k h q. has_push (node_at start nodes k).state lost last (was.each k h q)) (λ q. has_last (node_at start nodes at).state lost last told.state);
      spread = spread_more turn start cpus nodes lost at last graph there was.spread told.state;
    })

-- a state that is not lost
pub lost_less : {S : Type 0} (turn : S → ℕ → S) (ended : S → Type 0) (start : S) (cpus : ℕ) (nodes : List (Node S)) (is_whole : Bool) (lost new : List (Told S)) (at : ℕ) → IsLostList turn ended start cpus nodes is_whole lost at → CanEnd turn ended cpus (node_at start nodes at).state → new ≡ lost → IsLostList turn ended start cpus nodes is_whole new (at + 1)
lost_less {S} turn ended start cpus nodes is_whole lost new at was can kept =
    let E : ℕ → Type 0 = λ k. IsLost turn ended cpus (node_at start nodes k).state → HasOutcome (node_at start nodes k).state lost in
    let F : List (Told S) → Type 0 = λ xs. IsLostList turn ended start cpus nodes is_whole xs (at + 1) in
    subst F (sym kept) (record { sound = was.sound; each = below_more E at was.each (λ q. absurd (q can.order can.below can.end)); spread = spread_less start nodes lost at was.spread })

pub all_lost : {S : Type 0} (turn : S → ℕ → S) (ended : S → Type 0) (start : S) (cpus : ℕ) (nodes : List (Node S)) (is_whole : Bool) (lost : List (Told S)) (at : ℕ) → IsFullOf turn start cpus nodes → IsLostList turn ended start cpus nodes is_whole lost at → length nodes ≤ at → (order : List ℕ) → IsOrder cpus order → IsLost turn ended cpus (run turn start order) → HasOutcome (run turn start order) lost
all_lost {S} turn ended start cpus nodes is_whole lost at is list end order below dark =
    let r : IsReached (length nodes) (node_at start nodes) (run turn start order) (length order) = reached_from_start turn start cpus (length nodes) (node_at start nodes) order is below in
    let L : S → Type 0 = λ s. IsLost turn ended cpus s in
    let H : S → Type 0 = λ s. HasOutcome s lost in
    let less : r.place < at = omega (arith, r.there, end) in
    subst H r.is (list.each r.place less (subst L (sym r.is) dark))

-- one more end noted
pub ends_more : {S : Type 0} (turn : S → ℕ → S) (ended : S → Type 0) (start : S) (cpus : ℕ) (nodes : List (Node S)) (reaches new : List Bool) (at : ℕ) (b : Bool) (state : S) → length reaches ≡ at → ((k : ℕ) → k < at → (slice_index_or reaches k false ≡ true) ↔ ended (node_at start nodes k).state) → state ≡ (node_at start nodes at).state → (IsTrue b ↔ ended state) → new ≡ reaches ++ b ∷ [] → (k : ℕ) → k < at + 1 → (slice_index_or new k false ≡ true) ↔ ended (node_at start nodes k).state
ends_more {S} turn ended start cpus nodes reaches new at b state long was same exact pushed =
    let P : List Bool → ℕ → Type 0 = λ xs k. (slice_index_or xs k false ≡ true) ↔ ended (node_at start nodes k).state in
    let F : List Bool → Type 0 = λ xs. (k : ℕ) → k < at + 1 → P xs k in
    let I : S → Type 0 = λ s. (b ≡ true) ↔ ended s in
    let B : ℕ → Bool → Type 0 = λ k x. (x ≡ true) ↔ ended (node_at start nodes k).state in
    let list : List Bool = reaches ++ b ∷ [] in
    let last : slice_index_or list at false ≡ b = get_or_push reaches b false at long in
    subst F (sym pushed) (below_more (P list) at
    (λ k h.
    let less : k < length reaches = omega arith in
    subst (B k) (sym (get_or_append_left reaches (b ∷ []) false k less)) (was k h))
    (subst (B at) (sym last) (subst I same exact)))

-- once each state was looked at, what is noted are the ends
pub ends_all : {S : Type 0} (turn : S → ℕ → S) (ended : S → Type 0) (start : S) (cpus : ℕ) (nodes : List (Node S)) (reaches : List Bool) (at : ℕ) → at ≡ length nodes → ((k : ℕ) → k < at → (slice_index_or reaches k false ≡ true) ↔ ended (node_at start nodes k).state) → IsReaching turn ended start cpus nodes reaches
ends_all turn ended start cpus nodes reaches at all exact = record {
  sound = λ k h light.
      let less : k < at = omega arith in
      record { order = []; below = λ i d low. absurd (omega arith); end = (exact k less).0 light };
  ends = λ k h end. let less : k < at = omega arith in (exact k less).1 end;
}

pub lost_at : {S : Type 0} (turn : S → ℕ → S) (ended : S → Type 0) (start : S) (cpus : ℕ) (nodes : List (Node S)) (is_whole : Bool) (reaches : List Bool) (at : ℕ) → IsReaching turn ended start cpus nodes reaches → (IsTrue is_whole → IsSettled turn start cpus nodes reaches) → at < length nodes → slice_index_or reaches at false ≡ false → IsTrue is_whole → IsLost turn ended cpus (node_at start nodes at).state
lost_at turn ended start cpus nodes is_whole reaches at is settled there dark = λ whole order below end. lost_stable turn ended start cpus nodes reaches order at is (settled whole) there dark below end

-- how far a way back over all states has come, from the last one down to a place
pub record IsPassed {S : Type 0} (turn : S → ℕ → S) (ended : S → Type 0) (start : S) (cpus : ℕ) (nodes : List (Node S)) (is_whole : Bool) (old reaches : List Bool) (is_new : Bool) (up : ℕ) : Type 0 where
  pub same : length reaches ≡ length nodes
  pub reaching : IsReaching turn ended start cpus nodes reaches
  pub most : sum_by missing reaches ≤ sum_by missing old
  pub fewer : is_new ≡ true → sum_by missing reaches < sum_by missing old
  pub kept : is_new ≡ false → reaches ≡ old
  pub stable : is_new ≡ false → IsTrue is_whole → (k : ℕ) → up ≤ k → k < length nodes → IsStable turn start cpus nodes old k

pub pass_begun : {S : Type 0} (turn : S → ℕ → S) (ended : S → Type 0) (start : S) (cpus : ℕ) (nodes : List (Node S)) (is_whole : Bool) (old : List Bool) (is_new : Bool) (up : ℕ) → length old ≡ length nodes → IsReaching turn ended start cpus nodes old → is_new ≡ false → length nodes ≤ up → IsPassed turn ended start cpus nodes is_whole old old is_new up
pass_begun turn ended start cpus nodes is_whole old is_new up same is none all = record {
  same = same;
  reaching = is;
  most = omega arith;
  fewer = λ so. absurd (true≢false (sym so ∙ none));
  kept = λ not_so. refl;
  stable = λ not_so whole k more less. absurd (omega arith);
}

-- an end can be reached from one more state
pub pass_new : {S : Type 0} (turn : S → ℕ → S) (ended : S → Type 0) (start : S) (cpus : ℕ) (nodes : List (Node S)) (is_whole : Bool) (old reaches new : List Bool) (was is_new : Bool) (up at : ℕ) → IsPassed turn ended start cpus nodes is_whole old reaches was up → length new ≡ length reaches → IsReaching turn ended start cpus nodes new → sum_by missing new < sum_by missing reaches → is_new ≡ true → IsPassed turn ended start cpus nodes is_whole old new is_new at
pass_new turn ended start cpus nodes is_whole old reaches new was is_new up at p long is less so = record {
  same = long ∙ p.same;
  reaching = is;
  most = omega (arith, p.most, less);
  fewer = λ h. omega (arith, p.most, less);
  kept = λ not_so. absurd (true≢false (sym so ∙ not_so));
  stable = λ not_so. absurd (true≢false (sym so ∙ not_so));
}

-- nothing new at a state
pub pass_same : {S : Type 0} (turn : S → ℕ → S) (ended : S → Type 0) (start : S) (cpus : ℕ) (nodes : List (Node S)) (is_whole : Bool) (old reaches new : List Bool) (was is_new : Bool) (up at : ℕ) → IsPassed turn ended start cpus nodes is_whole old reaches was up → up ≡ at + 1 → new ≡ reaches → (IsTrue is_whole → IsStable turn start cpus nodes reaches at) → is_new ≡ was → IsPassed turn ended start cpus nodes is_whole old new is_new at
pass_same {S} turn ended start cpus nodes is_whole old reaches new was is_new up at p is_next left here same =
    let L : List Bool → Type 0 = λ xs. IsPassed turn ended start cpus nodes is_whole old xs is_new at in
    let B : Bool → Type 0 = λ b. IsPassed turn ended start cpus nodes is_whole old reaches b at in
    let A : List Bool → Type 0 = λ xs. IsStable turn start cpus nodes xs at in
    subst L (sym left) (subst B (sym same) (record {
      same = p.same;
      reaching = p.reaching;
      most = p.most;
      fewer = p.fewer;
      kept = p.kept;
      stable = λ not_so whole k more less. elim (same_or_not k at) [
        | inl is ↦
            let K : ℕ → Type 0 = λ j. IsStable turn start cpus nodes old j in
            subst K (sym is) (subst A (p.kept not_so) (here whole))
        | inr other ↦
            let above : up ≤ k = omega arith in
            p.stable not_so whole k above less
      ];
    }))

-- nothing new at all
pub pass_done : {S : Type 0} (turn : S → ℕ → S) (ended : S → Type 0) (start : S) (cpus : ℕ) (nodes : List (Node S)) (is_whole : Bool) (old reaches : List Bool) (is_new : Bool) (up : ℕ) → IsPassed turn ended start cpus nodes is_whole old reaches is_new up → up ≤ 0 → is_new ≡ false → IsTrue is_whole → IsSettled turn start cpus nodes reaches
pass_done turn ended start cpus nodes is_whole old reaches is_new up p down not_so whole =
    let F : List Bool → Type 0 = λ xs. IsSettled turn start cpus nodes xs in
    subst F (sym (p.kept not_so)) (record { stable = λ k h. let above : up ≤ k = omega arith in p.stable not_so whole k above h })

-- where each turn was tried, it leads to no new state
pub not_fresh : {S : Type 0} (turn : S → ℕ → S) (start : S) (cpus : ℕ) (links : List Link) (old new : List S) (at cpu next : ℕ) → length links ≤ length old → AllTried turn start cpus (nodes_of old links) (length (nodes_of old links)) → at < length links → cpu < cpus → IsNew turn old new at cpu next → ⊥
not_fresh {S} turn start cpus links old new at cpu next few tried there below fresh =
    let nodes : List (Node S) = nodes_of old links in
    let count : length nodes ≡ length links = nodes_long old links few in
    let here : at < length nodes = omega arith in
    let t : IsTried turn (length nodes) (node_at start nodes) (node_at start nodes at) cpu = tried at here cpu below in
    let place_in : t.place < length links = omega (arith, t.there, count) in
    let place_kept : t.place < length old = omega arith in
    let own : (node_at start nodes at).state ≡ slice_index_or old at start = node_state start old links at few there in
    let to : (node_at start nodes t.place).state ≡ slice_index_or old t.place start = node_state start old links t.place few place_in in
    fresh.fresh t.place place_kept start (sym to ∙ (t.leads ∙ (ap (λ (s : S). turn s cpu) own ∙ sym (fresh.leads start))))

-- a turn that is made again keeps the places of the states that were found
pub turn_again : {S : Type 0} (turn : S → ℕ → S) (start : S) (cpus : ℕ) (links : List Link) (is_whole : Bool) (old new : List S) (at cpu next : ℕ) → length links ≤ length old → (IsTrue is_whole → length links ≡ length old) → (IsTrue is_whole → AllTried turn start cpus (nodes_of old links) (length (nodes_of old links))) → at < length links → cpu < cpus → IsTurned turn old new at cpu next → IsAgain (nodes_of old links) links is_whole new
turn_again {S} turn start cpus links is_whole old new at cpu next few exact tried there below (inl seen) =
    let F : List S → Type 0 = λ xs. IsAgain (nodes_of old links) links is_whole xs in
    subst F (sym seen.same) (record { same = refl; room = few; exact = exact })
turn_again {S} turn start cpus links is_whole old new at cpu next few exact tried there below (inr fresh) =
    let nodes : List (Node S) = nodes_of old links in
    let one : List S = fresh.state ∷ [] in
    let more : length (old ++ one) ≡ length old + 1 = length-append old one in
    let F : List S → Type 0 = λ xs. IsAgain nodes links is_whole xs in
    subst F (sym fresh.grown) (record {
      same = nodes_more old one links few;
      room = omega arith;
      exact = λ whole. absurd (not_fresh turn start cpus links old new at cpu next few (tried whole) there below fresh);
    })

-- where it leads, if that was found
pub next_again : {S : Type 0} (turn : S → ℕ → S) (start : S) (links : List Link) (old new : List S) (at cpu next : ℕ) (reaches : List Bool) (noted : Bool) → length links ≤ length old → at < length links → next < length links → IsTurned turn old new at cpu next → slice_index_or reaches next false ≡ noted → IsNext turn start (nodes_of old links) reaches at cpu noted
next_again {S} turn start links old new at cpu next reaches noted few there found (inl seen) is =
    let nodes : List (Node S) = nodes_of old links in
    let count : length nodes ≡ length links = nodes_long old links few in
    let own : (node_at start nodes at).state ≡ slice_index_or old at start = node_state start old links at few there in
    let to : (node_at start nodes next).state ≡ slice_index_or old next start = node_state start old links next few found in
    record { place = next; there = omega arith; leads = to ∙ (seen.leads start ∙ ap (λ (s : S). turn s cpu) (sym own)); is = is }
next_again {S} turn start links old new at cpu next reaches noted few there found (inr fresh) is = let last = fresh.last in absurd (omega arith)

-- where each turn was tried, it was found
pub found_again : {S : Type 0} (turn : S → ℕ → S) (start : S) (cpus : ℕ) (links : List Link) (old new : List S) (at cpu next : ℕ) → length links ≡ length old → AllTried turn start cpus (nodes_of old links) (length (nodes_of old links)) → at < length links → cpu < cpus → IsTurned turn old new at cpu next → next < length links
found_again turn start cpus links old new at cpu next exact tried there below (inl seen) = omega (arith, seen.there)
found_again turn start cpus links old new at cpu next exact tried there below (inr fresh) = let few : length links ≤ length old = omega arith in absurd (not_fresh turn start cpus links old new at cpu next few tried there below fresh)

-- turns that are made again, and further ones
pub again_none : {S : Type 0} (links : List Link) (is_whole : Bool) (kept : List S) → length links ≤ length kept → (IsTrue is_whole → length links ≡ length kept) → IsAgain (nodes_of kept links) links is_whole kept
again_none links is_whole kept few exact = record { same = refl; room = few; exact = exact }

pub again_on : {S : Type 0} (links : List Link) (is_whole : Bool) (nodes : List (Node S)) (two three : List S) → IsAgain nodes links is_whole two → IsAgain (nodes_of two links) links is_whole three → IsAgain nodes links is_whole three
again_on links is_whole nodes two three p q = record { same = q.same ∙ p.same; room = q.room; exact = q.exact }

-- from a last state that is no end no turn leads away
pub last_stays : {S : Type 0} (turn : S → ℕ → S) (ended : S → Type 0) (start : S) (cpus : ℕ) (nodes : List (Node S)) (reaches : List Bool) (at : ℕ) → IsReaching turn ended start cpus nodes reaches → at < length nodes → slice_index_or reaches at false ≡ false → IsLast turn ended cpus (node_at start nodes at).state → (cpu : ℕ) → cpu < cpus → IsNext turn start nodes reaches at cpu false
last_stays turn ended start cpus nodes reaches at is there dark (inl over) cpu below = let light : slice_index_or reaches at false ≡ true = is.ends at there over in absurd (true≢false (sym light ∙ dark))
last_stays turn ended start cpus nodes reaches at is there dark (inr quiet) cpu below = record { place = at; there = there; leads = sym (quiet cpu below); is = dark }
