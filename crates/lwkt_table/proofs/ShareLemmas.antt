use Rattle.std.proofs.Common.{◌≡◌, ◌≢◌, ⊎_elim, ℕ, zero, suc, ◌+◌, ◌<◌, ◌≤◌, ◌==◌, Bool, true, false, cond, List, [], ◌∷◌, length, All, count_by, refl, ap, sym, arith, eq-eqb, ne_eqb}
use Rattle.std.proofs.lemmas.Bool.{cases_eq}
use Rattle.std.proofs.lemmas.List.Elements.{All-head, All-tail}
use Rattle.std.proofs.lemmas.List.Sums.{sum_by-append}
use mathlib.Core.Option.{some}
use lib.ListN.{get_elem?}
use Rattle.lwkt_core.specs.declared.events.Event.{Event}
use Rattle.lwkt_table.specs.declared.seats.Deed.{Deed}
use Rattle.lwkt_table.specs.Seating.{total}
use Rattle.lwkt_table.specs.History.{events_by, events_in}
use Rattle.lwkt_table.proofs.SeatingLemmas.{total-cons, total-zero, total-at}

-- 1 where a test passes
abbrev one_if : Bool → ℕ
one_if b = cond b 1 0

small : (b : Bool) → one_if b ≤ 1
small true = omega arith
small false = omega arith

-- a number over the processors below one
below : ℕ → (ℕ → ℕ) → ℕ
below zero f = 0
below (suc n) f = below n f + f n

below-none : (n : ℕ) → below n (λ c. 0) ≡ 0
unfolding below
below-none zero = refl
below-none (suc n) = let a = below-none n in omega arith

below-both : (n : ℕ) (f g h : ℕ → ℕ) → ((c : ℕ) → h c ≡ f c + g c) → below n h ≡ below n f + below n g
unfolding below
below-both zero f g h is = refl
below-both (suc n) f g h is = let a = below-both n f g h is in let b = is n in omega arith

-- a processor is at most one of those below any
below-none_at : (n k : ℕ) → n ≤ k → below n (λ c. one_if (k == c)) ≡ 0
unfolding below
below-none_at zero k low = refl
below-none_at (suc n) k low =
    let a = below-none_at n k (omega arith) in
    let b : one_if (k == n) ≡ 0 = ap (λ (b : Bool). one_if b) (ne_eqb k n (λ e. absurd (omega arith))) in
    omega arith

below-one : (n k : ℕ) → below n (λ c. one_if (k == c)) ≤ 1
unfolding below
below-one zero k = omega arith
below-one (suc n) k = ⊎_elim
    (λ (same : k ≡ n). let a = below-none_at n k (omega arith) in let b = small (k == n) in omega arith)
    (λ (differ : k ≢ n).
    let a = below-one n k in
    let b : one_if (k == n) ≡ 0 = ap (λ (b : Bool). one_if b) (ne_eqb k n differ) in
    omega arith)
    (cases_eq k n)

-- where each of them has at least one, the sum is at least as many as there are, and one has at most what is over
below-least : (n : ℕ) (f : ℕ → ℕ) → ((c : ℕ) → c < n → 1 ≤ f c) → n ≤ below n f
unfolding below
below-least zero f some' = omega arith
below-least (suc n) f some' = let a = below-least n f (λ c low. some' c (omega arith)) in let b = some' n (omega arith) in omega arith

below-over : (n : ℕ) (f : ℕ → ℕ) → ((c : ℕ) → c < n → 1 ≤ f c) → (k : ℕ) → k < n → n + f k ≤ below n f + 1
unfolding below
below-over zero f some' k low = absurd (omega arith)
below-over (suc n) f some' k low = ⊎_elim
    (λ (same : k ≡ n).
    let a = below-least n f (λ c h. some' c (omega arith)) in
    let b : f k ≡ f n = ap f same in
    omega arith)
    (λ (differ : k ≢ n).
    let a = below-over n f (λ c h. some' c (omega arith)) k (omega arith) in
    let b = some' n (omega arith) in
    omega arith)
    (cases_eq k n)

-- seats, each of a processor
module _ {A : Type 0} (cpu : A → ℕ) where
  -- how many seats a processor has
  abbrev pub seats_for : List A → ℕ → ℕ
  seats_for seats c = total (λ s. one_if (cpu s == c)) seats

  -- all processors below one together have at most as many as there are
  all_seats : (n : ℕ) (seats : List A) → below n (seats_for seats) ≤ length seats
  all_seats n [] = let a = below-none n in omega arith
  all_seats n (s ∷ seats) =
      let a = below-both n (λ c. one_if (cpu s == c)) (seats_for seats) (seats_for (s ∷ seats)) (λ c. total-cons (λ x. one_if (cpu x == c)) s seats) in
      let b = below-one n (cpu s) in
      let d = all_seats n seats in
      omega arith

  -- a seat of a processor is one
  pub seats_for-some : (seats : List A) (i : ℕ) (s : A) (c : ℕ) → get_elem? seats i ≡ some s → cpu s ≡ c → 1 ≤ seats_for seats c
  seats_for-some seats i s c at_i is =
      let a = total-at (λ x. one_if (cpu x == c)) seats i s at_i in
      let b : one_if (cpu s == c) ≡ 1 = ap (λ (b : Bool). one_if b) (eq-eqb (cpu s) c is) in
      omega arith

  -- where there are as many seats as processors and each processor has one, it has one only
  pub seats_for-one : (n : ℕ) (seats : List A) → length seats ≡ n → ((c : ℕ) → c < n → 1 ≤ seats_for seats c) → (c : ℕ) → c < n → seats_for seats c ≡ 1
  seats_for-one n seats as_many each c low =
      let a = below-over n (seats_for seats) each c low in
      let b = all_seats n seats in
      let d = each c low in
      omega arith

  -- a number over two columns of the seats
  total-both : (f g h : A → ℕ) (seats : List A) → ((s : A) → h s ≡ f s + g s) → total h seats ≡ total f seats + total g seats
  total-both f g h [] is = refl
  total-both f g h (s ∷ seats) is =
      let a = total-cons h s seats in
      let b = total-cons f s seats in
      let d = total-cons g s seats in
      let e = is s in
      let r = total-both f g h seats is in
      omega arith

  -- what a deed of a processor with no seat, and with one seat, adds
  module _ (p : Event → Bool) (c : ℕ) (events : List Event) where
    abbrev adds : A → ℕ
    adds s = count_by p (cond (c == cpu s) events [])

    adds_here : (s : A) → c ≡ cpu s → adds s ≡ count_by p events
    adds_here s is = ap (λ (b : Bool). count_by p (cond b events [])) (eq-eqb c (cpu s) is)

    adds_else : (s : A) → c ≢ cpu s → adds s ≡ 0
    adds_else s differ = ap (λ (b : Bool). count_by p (cond b events [])) (ne_eqb c (cpu s) differ)

    adds_none : (seats : List A) → seats_for seats c ≡ 0 → total adds seats ≡ 0
    adds_none [] none = refl
    adds_none (s ∷ seats) none =
        let t = total-cons (λ x. one_if (cpu x == c)) s seats in
        let a = total-cons adds s seats in
        let r = adds_none seats (omega arith) in
        let here = adds_else s (λ same. let one : one_if (cpu s == c) ≡ 1 = ap (λ (b : Bool). one_if b) (eq-eqb (cpu s) c (sym same)) in absurd (omega arith)) in
        omega arith

    pub adds_one : (seats : List A) → seats_for seats c ≡ 1 → total adds seats ≡ count_by p events
    adds_one [] one = absurd (omega arith)
    adds_one (s ∷ seats) one =
        let t = total-cons (λ x. one_if (cpu x == c)) s seats in
        let a = total-cons adds s seats in
        ⊎_elim
        (λ (same : c ≡ cpu s).
        let b : one_if (cpu s == c) ≡ 1 = ap (λ (b : Bool). one_if b) (eq-eqb (cpu s) c (sym same)) in
        let here = adds_here s same in
        let r = adds_none seats (omega arith) in
        omega arith)
        (λ (differ : c ≢ cpu s).
        let b : one_if (cpu s == c) ≡ 0 = ap (λ (b : Bool). one_if b) (ne_eqb (cpu s) c (λ e. differ (sym e))) in
        let here = adds_else s differ in
        let r = adds_one seats (omega arith) in
        omega arith)
        (cases_eq c (cpu s))

  -- where each deed is of a processor with one seat, the seats' parts of a history add up to all of it
  pub shares : (p : Event → Bool) (seats : List A) (deeds : List Deed) → All (λ d. seats_for seats d.cpu.0 ≡ 1) deeds → total (λ s. count_by p (events_by (cpu s) deeds)) seats ≡ count_by p (events_in deeds)
  shares p seats [] ones = total-zero (λ (s : A). count_by p (events_by (cpu s) [])) seats (λ j s e. refl)
  shares p seats (d ∷ deeds) ones =
      let parts = total-both (adds p d.cpu.0 d.events) (λ s. count_by p (events_by (cpu s) deeds)) (λ s. count_by p (events_by (cpu s) (d ∷ deeds))) seats
      (λ s. sum_by-append (λ (e : Event). one_if (p e)) (cond (d.cpu.0 == cpu s) d.events []) (events_by (cpu s) deeds)) in
      let whole = sum_by-append (λ (e : Event). one_if (p e)) d.events (events_in deeds) in
      let first = adds_one p d.cpu.0 d.events seats (All-head (λ (x : Deed). seats_for seats x.cpu.0 ≡ 1) d deeds ones) in
      let rest = shares p seats deeds (All-tail (λ (x : Deed). seats_for seats x.cpu.0 ≡ 1) d deeds ones) in
      omega arith
