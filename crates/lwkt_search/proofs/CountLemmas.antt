use Rattle.std.proofs.Common.{◌≡◌, ◌≢◌, ℕ, ◌<◌, ◌≤◌, ◌⊎◌, inl, inr, zero, suc, length, arith, subst, sym, refl, ◌∙◌}
use Rattle.lwkt_search.specs.Runs.{run, CanReach, HasStates}
use Rattle.lwkt_search.specs.Graphs.{Node, IsFull}
use Rattle.lwkt_search.proofs.RunLemmas.{IsReached, reached_from_start}

same_or_not : (i j : ℕ) → (i ≡ j) ⊎ (i ≢ j)
same_or_not i j = grind arith

under_or_over : (i j : ℕ) → (i < j) ⊎ (j ≤ i)
under_or_over i j = grind arith

-- another number in the place of m
abbrev avoid_by : (x m y : ℕ) → (x ≡ m) ⊎ (x ≢ m) → ℕ
avoid_by x m y (inl is) = y
avoid_by x m y (inr other) = x

pub record IsMoved (x m y moved : ℕ) : Type 0 where
  pub from : x ≡ m
  pub to : moved ≡ y

pub record IsLeft (x m moved : ℕ) : Type 0 where
  pub other : x ≢ m
  pub same : moved ≡ x

avoids : (x m y : ℕ) (d : (x ≡ m) ⊎ (x ≢ m)) → IsMoved x m y (avoid_by x m y d) ⊎ IsLeft x m (avoid_by x m y d)
avoids x m y (inl is) = inl (record { from = is; to = refl })
avoids x m y (inr other) = inr (record { other = other; same = refl })

-- the numbers that f leads to, with that of n in the place of m
abbrev avoiding : (ℕ → ℕ) → ℕ → ℕ → ℕ → ℕ
avoiding f m n i = avoid_by (f i) m (f n) (same_or_not (f i) m)

-- places below m that all differ are at most m
pub pigeonhole : (n m : ℕ) (f : ℕ → ℕ) → ((i : ℕ) → i < n → f i < m) → ((i j : ℕ) → i < j → j < n → f i ≡ f j → ⊥) → n ≤ m
pigeonhole zero m f into apart = omega arith
pigeonhole (suc n) zero f into apart = let none : f n < 0 = into n (omega arith) in absurd (omega arith)
pigeonhole (suc n) (suc m) f into apart =
    let g : ℕ → ℕ = avoiding f m n in
    let last : n < suc n = omega arith in
    let top : f n < suc m = into n last in
    let into' : (i : ℕ) → i < n → g i < m = λ i h.
    let h2 : i < suc n = omega arith in
    let low : f i < suc m = into i h2 in
    let differs : f i ≡ f n → ⊥ = apart i n h last in
    elim (avoids (f i) m (f n) (same_or_not (f i) m)) [
      | inl v ↦
          let here : f n ≢ m = λ e. differs (v.from ∙ sym e) in
          let less : f n < m = omega arith in
          let is : g i ≡ f n = v.to in
          omega arith
      | inr v ↦
          let other : f i ≢ m = v.other in
          let is : g i ≡ f i = v.same in
          omega arith
    ]
    in
    let apart' : (i j : ℕ) → i < j → j < n → g i ≡ g j → ⊥ = λ i j less h e.
    let h2 : j < suc n = omega arith in
    let h3 : i < n = omega arith in
    elim (avoids (f i) m (f n) (same_or_not (f i) m)) [
      | inl v ↦ elim (avoids (f j) m (f n) (same_or_not (f j) m)) [
        | inl w ↦ apart i j less h2 (v.from ∙ sym w.from)
        | inr w ↦ apart j n h last (sym (sym v.to ∙ (e ∙ w.same)))
      ]
      | inr v ↦ elim (avoids (f j) m (f n) (same_or_not (f j) m)) [
        | inl w ↦ apart i n h3 last (sym v.same ∙ (e ∙ w.to))
        | inr w ↦ apart i j less h2 (sym v.same ∙ (e ∙ w.same))
      ]
    ]
    in
    let most : n ≤ m = pigeonhole n m g into' apart' in
    omega arith

-- a number for each k below the count
abbrev pick_by : (P : ℕ → ℕ → Type 0) (count k : ℕ) → ((j : ℕ) → j < count → (p : ℕ) × P j p) → (k < count) ⊎ (count ≤ k) → ℕ
pick_by P count k each (inl below) = (each k below).0
pick_by P count k each (inr over) = 0

picked : (P : ℕ → ℕ → Type 0) (count k : ℕ) (each : (j : ℕ) → j < count → (p : ℕ) × P j p) (d : (k < count) ⊎ (count ≤ k)) → k < count → P k (pick_by P count k each d)
picked P count k each (inl below) h = (each k below).1
picked P count k each (inr over) h = absurd (omega arith)

-- where a state was found
pub record IsFoundOf {S : Type 0} (len : ℕ) (node : ℕ → Node S) (state : S) (place : ℕ) : Type 0 where
  pub there : place < len
  pub is : (node place).state ≡ state

-- once the search has gone on from each state, orders lead to no other states
pub no_more : {S : Type 0} (turn : S → ℕ → S) (start : S) (cpus len : ℕ) (node : ℕ → Node S) (count : ℕ) → IsFull turn start cpus len node → HasStates turn cpus start count → count ≤ len
no_more {S} turn start cpus len node count is has =
    let P : ℕ → ℕ → Type 0 = λ k p. IsFoundOf len node (has.state k) p in
    let each : (k : ℕ) → k < count → (p : ℕ) × P k p = λ k h.
    let c : CanReach turn cpus start (has.state k) = has.reached k h in
    let r : IsReached len node (run turn start c.order) (length c.order) = reached_from_start turn start cpus len node c.order is c.below in
    let f : IsFoundOf len node (has.state k) r.place = record { there = r.there; is = r.is ∙ c.leads } in
    (r.place, f)
    in
    let place : ℕ → ℕ = λ k. pick_by P count k each (under_or_over k count) in
    let at : (k : ℕ) → k < count → P k (place k) = λ k h. picked P count k each (under_or_over k count) h in
    pigeonhole count len place (λ k h. (at k h).there) (λ i j less h e.
    let h2 : i < count = omega arith in
    let F : ℕ → Type 0 = λ p. (node p).state ≡ has.state i in
    let one : (node (place i)).state ≡ has.state i = (at i h2).is in
    let other : (node (place j)).state ≡ has.state j = (at j h).is in
    has.distinct i j less h (sym (subst F e one) ∙ other))
