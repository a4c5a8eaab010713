-- Lists under a permutation, and put together again from their parts (own).
use Rattle.std.proofs.Common.{◌≡◌, ◌≢◌, ℕ, zero, suc, ◌+◌, ◌<◌, ◌≤◌, ◌==◌, Bool, true, false, cond, List, [], ◌∷◌, ◌++◌, length, get_or, set, swap, filter, flat_map, All, ⊎_elim, refl, sym, ap, ◌∙◌, subst, arith, append_assoc, append-nil, eq-eqb, ne_eqb, IsPermutation}
use Rattle.std.specs.List.{range_with_len}
use Rattle.std.proofs.lemmas.Bool.{cases_eq}
use Rattle.std.proofs.lemmas.List.Elements.{All-head, All-tail}
use Rattle.std.proofs.lemmas.List.Sorted.{IsPermutation-refl, IsPermutation-keeps, IsPermutation-trans, IsPermutation-append_left, IsPermutation-append_right, IsPermutation-append_comm}

-- a list that is the same is a permutation
pub permutation_same : {X : Type 0} (xs ys : List X) → xs ≡ ys → IsPermutation xs ys
permutation_same xs ys e = subst (IsPermutation xs) e (IsPermutation-refl xs)

-- a relation holds along each permutation if it is reflexive and transitive, and goes under a head and over an exchange of two heads
module _ {X : Type 0} (R : List X → List X → Type 0) (same : (xs : List X) → R xs xs)
    (skip : (x : X) (xs ys : List X) → R xs ys → R (x ∷ xs) (x ∷ ys))
    (turn : (x y : X) (xs : List X) → R (x ∷ y ∷ xs) (y ∷ x ∷ xs))
    (chain : (xs ys zs : List X) → R xs ys → R ys zs → R xs zs) where
  to_head : (l : List X) (j : ℕ) (x d : X) → j < length l → R (x ∷ l) (get_or l j d ∷ set l j x)
  to_head [] j x d h = absurd (omega arith)
  to_head (y ∷ l) zero x d h = turn x y l
  to_head (y ∷ l) (suc j) x d h = chain _ _ _ (turn x y l) (chain _ _ _ (skip y _ _ (to_head l j x d (omega arith))) (turn y (get_or l j d) (set l j x)))

  exchanged : (l : List X) (i j : ℕ) (d : X) → i < length l → j < length l → R l (set (set l i (get_or l j d)) j (get_or l i d))
  exchanged [] i j d p q = absurd (omega arith)
  exchanged (x ∷ l) zero zero d p q = same (x ∷ l)
  exchanged (x ∷ l) zero (suc j) d p q = to_head l j x d (omega arith)
  exchanged (x ∷ l) (suc i) zero d p q = to_head l i x d (omega arith)
  exchanged (x ∷ l) (suc i) (suc j) d p q = skip x _ _ (exchanged l i j d (omega arith) (omega arith))

  swapped : (l : List X) (i j : ℕ) → i < length l → j < length l → R l (swap l i j)
  swapped [] i j p q = same []
  swapped (x ∷ l) i j p q = exchanged (x ∷ l) i j x p q

  along_permutation : (xs ys : List X) → IsPermutation xs ys → R xs ys
  along_permutation xs = IsPermutation-keeps xs (R xs) (same xs) (λ l i j p q h. chain xs l _ h (swapped l i j p q))

-- what is made of each element of a permutation is a permutation
pub permutation-flat_map : {A B : Type 0} (f : A → List B) (xs ys : List A) → IsPermutation xs ys → IsPermutation (flat_map f xs) (flat_map f ys)
permutation-flat_map f = along_permutation (λ xs ys. IsPermutation (flat_map f xs) (flat_map f ys))
    (λ xs. IsPermutation-refl _)
    (λ x xs ys h. IsPermutation-append_right (f x) _ _ h)
    (λ x y xs. rw (← append_assoc (f x), ← append_assoc (f y)) (IsPermutation-append_left (flat_map f xs) _ _ (IsPermutation-append_comm (f x) (f y))))
    (λ xs ys zs. IsPermutation-trans _ _ _)

filter_as_flat_map : {A : Type 0} (p : A → Bool) (xs : List A) → filter p xs ≡ flat_map (λ x. cond (p x) (x ∷ []) []) xs
filter_as_flat_map p [] = refl
filter_as_flat_map p (x ∷ xs) =
    elim (p x) as (λ b. cond b (x ∷ filter p xs) (filter p xs) ≡ cond b (x ∷ []) [] ++ flat_map (λ y. cond (p y) (y ∷ []) []) xs)
    [ true ↦ ap (λ l. x ∷ l) (filter_as_flat_map p xs) | false ↦ filter_as_flat_map p xs ]

-- and so is what a test keeps of it
pub permutation-filter : {A : Type 0} (p : A → Bool) (xs ys : List A) → IsPermutation xs ys → IsPermutation (filter p xs) (filter p ys)
permutation-filter p xs ys h = rw (filter_as_flat_map p xs, filter_as_flat_map p ys) (permutation-flat_map _ xs ys h)

-- what is made of what a test keeps
pub flat_map-kept : {A B : Type 0} (f : A → List B) (p : A → Bool) (xs : List A) → flat_map f (filter p xs) ≡ flat_map (λ x. cond (p x) (f x) []) xs
flat_map-kept f p [] = refl
flat_map-kept f p (x ∷ xs) =
    elim (p x) as (λ b. flat_map f (cond b (x ∷ filter p xs) (filter p xs)) ≡ cond b (f x) [] ++ flat_map (λ y. cond (p y) (f y) []) xs)
    [ true ↦ ap (λ l. f x ++ l) (flat_map-kept f p xs) | false ↦ flat_map-kept f p xs ]

-- two lists that are made of each element: one after the other, or side by side
pub flat_map-both : {K B : Type 0} (a b : K → List B) (ks : List K) → IsPermutation (flat_map a ks ++ flat_map b ks) (flat_map (λ k. a k ++ b k) ks)
flat_map-both a b [] = IsPermutation-refl []
flat_map-both {K} {B} a b (k ∷ ks) =
    let A : List B = flat_map a ks in
    let C : List B = flat_map b ks in
    let one : IsPermutation ((a k ++ A) ++ (b k ++ C)) (a k ++ (A ++ (b k ++ C))) = permutation_same _ _ (append_assoc (a k) A (b k ++ C)) in
    let two : IsPermutation (A ++ (b k ++ C)) (b k ++ (A ++ C)) = IsPermutation-trans _ _ _
    (permutation_same _ _ (sym (append_assoc A (b k) C)))
    (IsPermutation-trans _ _ _ (IsPermutation-append_left C _ _ (IsPermutation-append_comm A (b k))) (permutation_same _ _ (append_assoc (b k) A C))) in
    let three : IsPermutation (b k ++ (A ++ C)) (b k ++ flat_map (λ j. a j ++ b j) ks) = IsPermutation-append_right (b k) _ _ (flat_map-both a b ks) in
    IsPermutation-trans _ _ _ one
    (IsPermutation-trans _ _ _ (IsPermutation-append_right (a k) _ _ (IsPermutation-trans _ _ _ two three))
    (permutation_same _ _ (sym (append_assoc (a k) (b k) (flat_map (λ j. a j ++ b j) ks)))))

flat_map-none : {K B : Type 0} (ks : List K) → flat_map {X = K} {A = B} (λ k. []) ks ≡ []
flat_map-none [] = refl
flat_map-none (k ∷ ks) = flat_map-none ks

-- of numbers in a row, what is made of one of them alone
module _ {B : Type 0} (n : ℕ) (xs : List B) where
  none_of : (a m : ℕ) → n < a → flat_map (λ k. cond (n == k) xs []) (range_with_len a m) ≡ []
  none_of a zero below = refl
  none_of a (suc m) below =
      ap (λ (b : Bool). cond b xs [] ++ flat_map (λ k. cond (n == k) xs []) (range_with_len (a + 1) m)) (ne_eqb n a (λ e. absurd (omega arith))) ∙ none_of (a + 1) m (omega arith)

  one_of : (a m : ℕ) → a ≤ n → n < a + m → flat_map (λ k. cond (n == k) xs []) (range_with_len a m) ≡ xs
  one_of a zero low high = absurd (omega arith)
  one_of a (suc m) low high = ⊎_elim
      (λ (same : n ≡ a).
      ap (λ (b : Bool). cond b xs [] ++ flat_map (λ k. cond (n == k) xs []) (range_with_len (a + 1) m)) (eq-eqb n a same)
      ∙ ap (λ l. xs ++ l) (none_of (a + 1) m (omega arith))
      ∙ append-nil xs)
      (λ (differ : n ≢ a).
      ap (λ (b : Bool). cond b xs [] ++ flat_map (λ k. cond (n == k) xs []) (range_with_len (a + 1) m)) (ne_eqb n a differ)
      ∙ one_of (a + 1) m (omega arith) (omega arith))
      (cases_eq n a)

-- what is made of each element of a list, and the same number by number of what the elements are at, are permutations
pub flat_map-parted : {X B : Type 0} (key : X → ℕ) (f : X → List B) (n : ℕ) (xs : List X) → All (λ x. key x < n) xs
    → IsPermutation (flat_map f xs) (flat_map (λ k. flat_map (λ x. cond (key x == k) (f x) []) xs) (range_with_len 0 n))
flat_map-parted key f n [] low = permutation_same _ _ (sym (flat_map-none (range_with_len 0 n)))
flat_map-parted {X} {B} key f n (x ∷ xs) low =
    let P : X → Type 0 = λ y. key y < n in
    let rest : ℕ → List B = λ k. flat_map (λ y. cond (key y == k) (f y) []) xs in
    let one : IsPermutation (f x ++ flat_map f xs) (f x ++ flat_map rest (range_with_len 0 n)) = IsPermutation-append_right (f x) _ _ (flat_map-parted key f n xs (All-tail P x xs low)) in
    let own : flat_map (λ k. cond (key x == k) (f x) []) (range_with_len 0 n) ≡ f x = one_of (key x) (f x) 0 n (omega arith) (let h = All-head P x xs low in omega arith) in
    IsPermutation-trans _ _ _ one
    (IsPermutation-trans _ _ _ (permutation_same _ _ (ap (λ l. l ++ flat_map rest (range_with_len 0 n)) (sym own)))
    (flat_map-both (λ k. cond (key x == k) (f x) []) rest (range_with_len 0 n)))
