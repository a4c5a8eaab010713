-- Elements of a list by their places.
use Rattle.std.proofs.Common.{◌≡◌, ◌≢◌, ℕ, zero, suc, ◌+◌, ◌<◌, List, [], ◌∷◌, ◌++◌, length, set, take, drop, refl, ap, sym, ◌∙◌, subst, inl, inr, arith, Option, Some}
use Rattle.std.specs.Prelude.{◌⊎◌, slice_get}
use Rattle.std.specs.List.{remove}

-- an element was put in a place
pub get_set_same : {A : Type 0} (xs : List A) (i : ℕ) (y : A) → i < length xs → slice_get (set xs i y) i ≡ Some y
get_set_same [] i y within = absurd (omega (arith, within))
get_set_same (x ∷ xs) zero y within = refl
get_set_same (x ∷ xs) (suc i) y within = get_set_same xs i y (omega (arith, within))

pub get_set_other : {A : Type 0} (xs : List A) (i j : ℕ) (y : A) → j ≢ i → slice_get (set xs i y) j ≡ slice_get xs j
get_set_other [] i j y apart = refl
get_set_other (x ∷ xs) zero zero y apart = absurd (apart refl)
get_set_other (x ∷ xs) zero (suc j) y apart = refl
get_set_other (x ∷ xs) (suc i) zero y apart = refl
get_set_other (x ∷ xs) (suc i) (suc j) y apart = get_set_other xs i j y (λ same. apart (ap suc same))

-- a place of a list has an element
pub get_there : {A : Type 0} (xs : List A) (i : ℕ) → i < length xs → (x : A) × (slice_get xs i ≡ Some x)
get_there [] i within = absurd (omega (arith, within))
get_there (x ∷ xs) zero within = (x, refl)
get_there (x ∷ xs) (suc i) within = get_there xs i (omega (arith, within))

pub some_same : {A : Type 0} (x y : A) (o : Option A) → o ≡ Some x → o ≡ Some y → x ≡ y
some_same {A = A} x y o one two = let e : ◌≡◌ {A = Option A} (Some x) (Some y) = sym one ∙ two in cc

-- the first element is taken away
pub get_removed : {A : Type 0} (xs : List A) (j : ℕ) → slice_get (remove xs 0) j ≡ slice_get xs (suc j)
get_removed [] j = refl
get_removed (x ∷ xs) j = refl

pub length_removed : {A : Type 0} (xs : List A) → 0 < length xs → length (remove xs 0) + 1 ≡ length xs
length_removed [] some = absurd (omega (arith, some))
length_removed (x ∷ xs) some = omega arith

-- one more element stands at the end
pub get_pushed : {A : Type 0} (xs : List A) (y x : A) (j : ℕ) → slice_get (xs ++ y ∷ []) j ≡ Some x → (slice_get xs j ≡ Some x) ⊎ ((j ≡ length xs) × (x ≡ y))
get_pushed [] y x zero is = inr (refl, cc)
get_pushed [] y x (suc j) is = inl is
get_pushed (z ∷ xs) y x zero is = inl is
get_pushed (z ∷ xs) y x (suc j) is = elim (get_pushed xs y x j is) [
  | inl there ↦ inl there
  | inr last ↦ inr (ap suc last.0, last.1)
]

take_front : {A : Type 0} (xs ys : List A) → take (length xs) (xs ++ ys) ≡ xs
take_front [] ys = refl
take_front (x ∷ xs) ys = ap (λ zs. x ∷ zs) (take_front xs ys)

pub refilled_front : {A : Type 0} (xs ys : List A) (n : ℕ) → length xs ≡ n → take n (xs ++ ys) ≡ xs
refilled_front {A = A} xs ys n long =
    let F : ℕ → Type 0 = λ k. take k (xs ++ ys) ≡ xs in
    subst F long (take_front xs ys)

-- a vector whose items were lent as a slice has what was left there
pub refilled : {A : Type 0} (news items : List A) (n : ℕ) → length news ≡ n → take n (news ++ drop (length news) items) ≡ news
refilled {A = A} news items n long = refilled_front news (drop (length news) items) n long
