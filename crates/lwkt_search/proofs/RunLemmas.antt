use Rattle.std.proofs.Common.{◌≡◌, ℕ, ◌+◌, ◌<◌, ◌≤◌, List, [], ◌∷◌, ◌++◌, ◌⊎◌, inl, inr, length, arith, ap, subst, sym, refl, ◌∙◌, slice_index_or, Bool, IsTrue, below_more, reverse}
use Rattle.std.proofs.lemmas.List.Elements.{All-head, All-tail, All-push, All-cons}
use Rattle.std.proofs.lemmas.List.{get_or_append_left, length-append, map-append, reverse-append}
use Rattle.std.proofs.Math.Seq.{get_or-append_seam}
use Rattle.lwkt_search.specs.declared.searches.Outcome.{Outcome}
use Rattle.lwkt_search.specs.Runs.{Told, told_of, all_told, run, IsOrder, IsLast, IsOutcome, IsShortest, HasOutcome}
use Rattle.lwkt_search.specs.Graphs.{Node, node_at, IsGraph, IsGraphOf, IsTried, IsFull, IsFullOf, IsTold, IsCollected, IsFrom, IsSpread}

-- a state that was found, at most so deep
pub record IsReached {S : Type 0} (len : ℕ) (node : ℕ → Node S) (state : S) (most : ℕ) : Type 0 where
  pub place : ℕ
  pub there : place < len
  pub is : (node place).state ≡ state
  pub depth : (node place).depth ≤ most

-- once the search has gone on from each state, each order leads from a found state to a found state
pub reached : {S : Type 0} (turn : S → ℕ → S) (start : S) (cpus len : ℕ) (node : ℕ → Node S) (order : List ℕ) (i : ℕ) → IsFull turn start cpus len node → i < len → IsOrder cpus order → IsReached len node (run turn (node i).state order) ((node i).depth + length order)
reached {S} turn start cpus len node [] i is below order = record { place = i; there = below; is = refl; depth = omega arith }
reached {S} turn start cpus len node (cpu ∷ rest) i is below order =
    let C : ℕ → Type 0 = λ c. c < cpus in
    let t : IsTried turn len node (node i) cpu = is.done i below cpu (All-head C cpu rest order) in
    let r : IsReached len node (run turn (node t.place).state rest) ((node t.place).depth + length rest) = reached turn start cpus len node rest t.place is t.there (All-tail C cpu rest order) in
    let F : S → Type 0 = λ s. (node r.place).state ≡ run turn s rest in
    let long : length (cpu ∷ rest) ≡ length rest + 1 = omega arith in
    record { place = r.place; there = r.there; is = subst F t.leads r.is; depth = omega (arith, r.depth, t.depth, long) }

pub reached_from_start : {S : Type 0} (turn : S → ℕ → S) (start : S) (cpus len : ℕ) (node : ℕ → Node S) (order : List ℕ) → IsFull turn start cpus len node → IsOrder cpus order → IsReached len node (run turn start order) (length order)
reached_from_start {S} turn start cpus len node order is below =
    let r : IsReached len node (run turn (node 0).state order) ((node 0).depth + length order) = reached turn start cpus len node order 0 is is.graph.some below in
    let F : S → Type 0 = λ s. (node r.place).state ≡ run turn s order in
    record { place = r.place; there = r.there; is = subst F is.graph.first r.is; depth = omega (arith, r.depth, is.graph.level) }

order_cases : (i j : ℕ) → (i < j) ⊎ ((j < i) ⊎ (i ≡ j))
order_cases i j = grind arith

-- two found states that are the same stand at one place
pub same_place : {S : Type 0} (turn : S → ℕ → S) (start : S) (cpus len : ℕ) (node : ℕ → Node S) (i j : ℕ) → IsGraph turn start cpus len node → i < len → j < len → (node i).state ≡ (node j).state → i ≡ j
same_place turn start cpus len node i j g hi hj e =
    elim (order_cases i j) [
      | inl less ↦ absurd (g.distinct i j less hj e)
      | inr more ↦ elim more [ inl less ↦ absurd (g.distinct j i less hi (sym e)) | inr is ↦ is ]
    ]

-- no order that leads to a found state is shorter than its depth
pub no_shorter : {S : Type 0} (turn : S → ℕ → S) (start : S) (cpus len : ℕ) (node : ℕ → Node S) (k : ℕ) (order : List ℕ) → IsFull turn start cpus len node → k < len → IsOrder cpus order → run turn start order ≡ (node k).state → (node k).depth ≤ length order
no_shorter {S} turn start cpus len node k order is h below e =
    let r : IsReached len node (run turn start order) (length order) = reached_from_start turn start cpus len node order is below in
    let at : r.place ≡ k = same_place turn start cpus len node r.place k is.graph r.there h (r.is ∙ e) in
    let F : ℕ → Type 0 = λ j. (node j).depth ≤ length order in
    subst F at r.depth

-- an outcome stays one where another comes to the list
pub has_push : {S : Type 0} (state : S) (outcomes : List (Told S)) (last : Told S) → HasOutcome state outcomes → HasOutcome state (outcomes ++ last ∷ [])
has_push {S} state outcomes last has =
    let P : Told S → Type 0 = λ o. o.state ≡ state in
    let long : length (outcomes ++ last ∷ []) ≡ length outcomes + 1 = length-append outcomes (last ∷ []) in
    let h : has.0 < length outcomes = has.1 in
    (has.0, omega (arith, long, h), λ d. subst P (sym (get_or_append_left outcomes (last ∷ []) d has.0 h)) (has.2 d))

-- and so is the last
pub has_last : {S : Type 0} (state : S) (outcomes : List (Told S)) (last : Told S) → last.state ≡ state → HasOutcome state (outcomes ++ last ∷ [])
has_last {S} state outcomes last is =
    let P : Told S → Type 0 = λ o. o.state ≡ state in
    let long : length (outcomes ++ last ∷ []) ≡ length outcomes + 1 = length-append outcomes (last ∷ []) in
    (length outcomes, omega (arith, long), λ d. subst P (sym (get_or-append_seam outcomes last [] d)) is)

-- one more state, at the next place
pub spread_more : {S : Type 0} (turn : S → ℕ → S) (start : S) (cpus : ℕ) (nodes : List (Node S)) (outcomes : List (Told S)) (at : ℕ) (last : Told S) → IsGraphOf turn start cpus nodes → at < length nodes → IsSpread start nodes outcomes at → last.state ≡ (node_at start nodes at).state → IsSpread start nodes (outcomes ++ last ∷ []) (at + 1)
spread_more {S} turn start cpus nodes outcomes at last graph there was state =
    let new : List (Told S) = outcomes ++ last ∷ [] in
    let long : length new ≡ length outcomes + 1 = length-append outcomes (last ∷ []) in
    let left : (k : ℕ) → k < length outcomes → (d : Told S) → (slice_index_or new k d).state ≡ (slice_index_or outcomes k d).state = λ k h d. ap (λ (o : Told S). o.state) (get_or_append_left outcomes (last ∷ []) d k h) in
    let seam : (d : Told S) → (slice_index_or new (length outcomes) d).state ≡ last.state = λ d. ap (λ (o : Told S). o.state) (get_or-append_seam outcomes last [] d) in
    let A : ℕ → Type 0 = λ j. (i : ℕ) → i < j → (d : Told S) → (slice_index_or new i d).state ≡ (slice_index_or new j d).state → ⊥ in
    let old : (j : ℕ) → j < length outcomes → A j = λ j h i less d e.
    let h2 : i < length outcomes = omega arith in
    was.apart i j less h d (sym (left i h2 d) ∙ (e ∙ left j h d))
    in
    let one : A (length outcomes) = λ i less d e.
    let f : IsFrom start nodes outcomes at i = was.from i less in
    graph.distinct f.place at f.before there (sym (f.is d) ∙ (sym (left i less d) ∙ (e ∙ (seam d ∙ state))))
    in
    let F : ℕ → Type 0 = λ k. IsFrom start nodes new (at + 1) k in
    let kept : (k : ℕ) → k < length outcomes → F k = λ k h.
    let f : IsFrom start nodes outcomes at k = was.from k h in
    record { place = f.place; before = omega (arith, f.before); is = λ d. left k h d ∙ f.is d }
    in
    let here : F (length outcomes) = record { place = at; before = omega arith; is = λ d. seam d ∙ state } in
    record {
      apart = λ i j less h. let h2 : j < length outcomes + 1 = omega (arith, long, h) in below_more A (length outcomes) old one j h2 i less;
      from = λ k h. let h2 : k < length outcomes + 1 = omega (arith, long, h) in below_more F (length outcomes) kept here k h2;
    }

-- no more states, at the next place
pub spread_less : {S : Type 0} (start : S) (nodes : List (Node S)) (outcomes : List (Told S)) (at : ℕ) → IsSpread start nodes outcomes at → IsSpread start nodes outcomes (at + 1)
spread_less {S} start nodes outcomes at was = record {
  apart = was.apart;
  from = λ k h. let f : IsFrom start nodes outcomes at k = was.from k h in record { place = f.place; before = omega (arith, f.before); is = f.is };
}

-- one more outcome
pub collect_more : {S : Type 0} (turn : S → ℕ → S) (ended : S → Type 0) (start : S) (cpus : ℕ) (nodes : List (Node S)) (is_whole : Bool) (outcomes new : List (Told S)) (at : ℕ) (last : Told S) → IsCollected turn ended start cpus nodes is_whole outcomes at → at < length nodes → IsGraphOf turn start cpus nodes → (IsTrue is_whole → IsFullOf turn start cpus nodes) → IsTold turn start cpus nodes at last → IsLast turn ended cpus (node_at start nodes at).state → new ≡ outcomes ++ last ∷ [] → IsCollected turn ended start cpus nodes is_whole new (at + 1)
collect_more {S} turn ended start cpus nodes is_whole outcomes new at last was there graph full told ends pushed =
    let O : Told S → Type 0 = λ outcome. IsOutcome turn ended cpus start outcome in
    let H : Told S → Type 0 = λ outcome. IsShortest turn cpus start outcome in
    let Q : S → Type 0 = λ s. IsLast turn ended cpus s in
    let E : ℕ → Type 0 = λ k. IsLast turn ended cpus (node_at start nodes k).state → HasOutcome (node_at start nodes k).state (outcomes ++ last ∷ []) in
    let F : List (Told S) → Type 0 = λ xs. IsCollected turn ended start cpus nodes is_whole xs (at + 1) in
    let one : IsOutcome turn ended cpus start last = record { order = told.order; leads = told.leads ∙ sym told.state; last = subst Q (sym told.state) ends } in
    subst F (sym pushed) (record {
      sound = All-push O outcomes last was.sound one;
      each = λ yes. below_more E at (λ k h q. has_push (node_at start nodes k).state outcomes last (was.each yes k h q)) (λ q. has_last (node_at start nodes at).state outcomes last told.state);
      shortest = λ yes. All-push H outcomes last (was.shortest yes) (λ other below e.
          let least : (node_at start nodes at).depth ≤ length other = no_shorter turn start cpus (length nodes) (node_at start nodes) at other (full yes) there below (e ∙ told.state) in
          omega (arith, least, told.long));
      spread = spread_more turn start cpus nodes outcomes at last graph there was.spread told.state;
    })

-- a state that is no outcome
pub collect_less : {S : Type 0} (turn : S → ℕ → S) (ended : S → Type 0) (start : S) (cpus : ℕ) (nodes : List (Node S)) (is_whole : Bool) (outcomes new : List (Told S)) (at : ℕ) → IsCollected turn ended start cpus nodes is_whole outcomes at → (IsTrue is_whole → IsLast turn ended cpus (node_at start nodes at).state → ⊥) → new ≡ outcomes → IsCollected turn ended start cpus nodes is_whole new (at + 1)
collect_less {S} turn ended start cpus nodes is_whole outcomes new at was other kept =
    let E : ℕ → Type 0 = λ k. IsLast turn ended cpus (node_at start nodes k).state → HasOutcome (node_at start nodes k).state outcomes in
    let F : List (Told S) → Type 0 = λ xs. IsCollected turn ended start cpus nodes is_whole xs (at + 1) in
    subst F (sym kept) (record {
      sound = was.sound;
      each = λ yes. below_more E at (was.each yes) (λ q. absurd (other yes q));
      shortest = was.shortest;
      spread = spread_less start nodes outcomes at was.spread;
    })

-- each order that leads to a last state leads to an outcome
pub all_collected : {S : Type 0} (turn : S → ℕ → S) (ended : S → Type 0) (start : S) (cpus : ℕ) (nodes : List (Node S)) (is_whole : Bool) (outcomes : List (Told S)) (at : ℕ) → IsTrue is_whole → IsFullOf turn start cpus nodes → IsCollected turn ended start cpus nodes is_whole outcomes at → length nodes ≤ at → (order : List ℕ) → IsOrder cpus order → IsLast turn ended cpus (run turn start order) → HasOutcome (run turn start order) outcomes
all_collected {S} turn ended start cpus nodes is_whole outcomes at so full collected end order below last =
    let r : IsReached (length nodes) (node_at start nodes) (run turn start order) (length order) = reached_from_start turn start cpus (length nodes) (node_at start nodes) order full below in
    let Q : S → Type 0 = λ s. IsLast turn ended cpus s in
    let H : S → Type 0 = λ s. HasOutcome s outcomes in
    let less : r.place < at = omega (arith, r.there, end) in
    subst H r.is (collected.each so r.place less (subst Q (sym r.is) last))

-- the turn before an order's first one
pub back : {S : Type 0} (turn : S → ℕ → S) (cpus : ℕ) (state next end : S) (order new : List ℕ) (cpu : ℕ) → new ≡ order ++ cpu ∷ [] → cpu < cpus → next ≡ turn state cpu → run turn next (reverse order) ≡ end → IsOrder cpus (reverse order) → (run turn state (reverse new) ≡ end) × IsOrder cpus (reverse new)
back {S} turn cpus state next end order new cpu pushed below is leads all =
    let C : ℕ → Type 0 = λ k. k < cpus in
    let F : List ℕ → Type 0 = λ xs. (run turn state xs ≡ end) × IsOrder cpus xs in
    let E : S → Type 0 = λ s. run turn s (reverse order) ≡ end in
    let first : reverse new ≡ cpu ∷ reverse order = ap (λ (xs : List ℕ). reverse xs) pushed ∙ reverse-append order (cpu ∷ []) in
    subst F (sym first) (subst E is leads, All-cons C cpu (reverse order) below all)

-- one more outcome, as it is told
pub told_push : {S : Type 0} (start : S) (kept : List S) (outcomes : List Outcome) (last : Outcome) (new : List Outcome) → new ≡ outcomes ++ last ∷ [] → all_told start kept new ≡ all_told start kept outcomes ++ told_of start kept last ∷ []
told_push {S} start kept outcomes last new pushed = ap (λ (xs : List Outcome). all_told start kept xs) pushed ∙ map-append (told_of start kept) outcomes (last ∷ [])
