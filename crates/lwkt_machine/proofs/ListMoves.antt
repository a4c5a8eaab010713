-- Elements of a list by their places.
use Rattle.std.proofs.Common.{◌≡◌, ℕ, zero, suc, ◌+◌, List, [], ◌∷◌, ◌++◌, length, take, set, refl, ◌∙◌, sym, ap, subst, inl, inr, arith, Some, append_assoc, append-nil, None, Option}
use Rattle.std.specs.Prelude.{All, IsSomeAnd, slice_get}
use Rattle.std.specs.List.{AllZip, enumerate_from, flat_map}
use Rattle.std.proofs.lemmas.List.Elements.{All-nil, All-cons, All-head, All-tail}
use Rattle.std.proofs.lemmas.Option.{slice_get_within, get_or_from_slice_get}
use Rattle.lwkt_lane.proofs.PlaceMoves.{get_pushed, some_same}

-- one more element
pub flat_push : {A B : Type 0} (f : A → List B) (xs : List A) (x : A) → flat_map f (xs ++ x ∷ []) ≡ flat_map f xs ++ f x
flat_push f [] x = append-nil (f x)
flat_push f (y ∷ xs) x = ap (λ zs. f y ++ zs) (flat_push f xs x) ∙ sym (append_assoc (f y) (flat_map f xs) (f x))

pub none_is_some : {A : Type 0} (x : A) → ◌≡◌ {A = Option A} None (Some x) → ⊥
none_is_some x is = cc

-- one more element with its place
enumerate_suc : {A : Type 0} (n : ℕ) (xs : List A) (i : ℕ) (x : A) → slice_get xs i ≡ Some x → enumerate_from n (take (suc i) xs) ≡ enumerate_from n (take i xs) ++ (n + i, x) ∷ []
enumerate_suc {A = A} n [] i x at = absurd (none_is_some x at)
enumerate_suc {A = A} n (y ∷ xs) zero x at =
    let e : y ≡ x = cc in
    let z : n ≡ n + 0 = omega arith in
    ap (λ (v : A). (n, v) ∷ []) e ∙ ap (λ (k : ℕ). (k, x) ∷ []) z
enumerate_suc {A = A} n (y ∷ xs) (suc i) x at =
    let z : n + 1 + i ≡ n + suc i = omega arith in
    ap (λ es. (n, y) ∷ es) (enumerate_suc (n + 1) xs i x at ∙ ap (λ (k : ℕ). enumerate_from (n + 1) (take i xs) ++ (k, x) ∷ []) z)

pub enumerate_more : {A : Type 0} (xs : List A) (i : ℕ) (x : A) → slice_get xs i ≡ Some x → enumerate_from 0 (take (i + 1) xs) ≡ enumerate_from 0 (take i xs) ++ (i, x) ∷ []
enumerate_more {A = A} xs i x at =
    let F : ℕ → Type 0 = λ k. enumerate_from 0 (take k xs) ≡ enumerate_from 0 (take i xs) ++ (i, x) ∷ [] in
    let G : ℕ → Type 0 = λ k. enumerate_from 0 (take (suc i) xs) ≡ enumerate_from 0 (take i xs) ++ (k, x) ∷ [] in
    let e : suc i ≡ i + 1 = omega arith in
    let z : 0 + i ≡ i = omega arith in
    subst F e (subst G z (enumerate_suc 0 xs i x at))

-- what is said of an element that is there
pub some_there : {A : Type 0} (o : Option A) (P : A → Type 0) → IsSomeAnd o P → (x : A) × ((o ≡ Some x) × P x)
some_there None P is = absurd is
some_there (Some x) P is = (x, (refl, is))

-- what holds at each place holds of all
pub all_from_get : {A : Type 0} (P : A → Type 0) (xs : List A) → ((k : ℕ) (x : A) → slice_get xs k ≡ Some x → P x) → All P xs
all_from_get P [] each = All-nil P
all_from_get P (x ∷ xs) each = All-cons P x xs (each 0 x refl) (all_from_get P xs (λ k y at. each (suc k) y at))

-- what holds at each place, its number given, still does with one more element
pub each_more : {A : Type 0} (P : ℕ → A → Type 0) (xs : List A) (x : A) → P (length xs) x → ((k : ℕ) (y : A) → slice_get xs k ≡ Some y → P k y) → (k : ℕ) (y : A) → slice_get (xs ++ x ∷ []) k ≡ Some y → P k y
each_more {A = A} P xs x new each k y at = elim (get_pushed xs x y k at) [
  | inl there ↦ each k y there
  | inr last ↦
      let F : ℕ → Type 0 = λ n. P n y in
      let G : A → Type 0 = λ z. P (length xs) z in
      subst F (sym last.0) (subst G (sym last.1) new)
]

-- what holds of all of it
pub all_front : {A : Type 0} (P : A → Type 0) (xs : List A) (x : A) → All P (xs ++ x ∷ []) → All P xs
all_front P [] x all = All-nil P
all_front P (y ∷ xs) x all = All-cons P y xs (All-head P y (xs ++ x ∷ []) all) (all_front P xs x (All-tail P y (xs ++ x ∷ []) all))

pub all_last : {A : Type 0} (P : A → Type 0) (xs : List A) (x : A) → All P (xs ++ x ∷ []) → P x
all_last P [] x all = All-head P x [] all
all_last P (y ∷ xs) x all = all_last P xs x (All-tail P y (xs ++ x ∷ []) all)

-- what holds of all holds of the one at a place
pub all_at : {A : Type 0} (P : A → Type 0) (xs : List A) (k : ℕ) (x : A) → slice_get xs k ≡ Some x → All P xs → P x
all_at P xs k x at all =
    let F : _ → Type 0 = λ y. P y in
    subst F (get_or_from_slice_get xs k x x at) (all k x (slice_get_within xs k x at))

-- a list with the element at a place in its own stead
pub set_same : {A : Type 0} (xs : List A) (k : ℕ) (x y : A) → slice_get xs k ≡ Some x → y ≡ x → set xs k y ≡ xs
set_same [] k x y at same = refl
set_same (z ∷ xs) zero x y at same = ap (λ w. w ∷ xs) (same ∙ some_same x z (slice_get (z ∷ xs) 0) at refl)
set_same (z ∷ xs) (suc k) x y at same = ap (λ ws. z ∷ ws) (set_same xs k x y at same)

-- two lists that fit are as long, and fit at each place
pub zip_long : {A B : Type 0} (R : A → B → Type 0) (xs : List A) (ys : List B) → AllZip R xs ys → length ys ≡ length xs
zip_long R [] [] zip = refl
zip_long R [] (y ∷ ys) zip = absurd zip
zip_long R (x ∷ xs) [] zip = absurd zip
zip_long R (x ∷ xs) (y ∷ ys) zip = let more = zip_long R xs ys zip.1 in omega (arith, more)

pub zip_get : {A B : Type 0} (R : A → B → Type 0) (xs : List A) (ys : List B) → AllZip R xs ys → (k : ℕ) (y : B) → slice_get ys k ≡ Some y → (x : A) × ((slice_get xs k ≡ Some x) × R x y)
zip_get R [] [] zip k y at = absurd (omega (arith, slice_get_within [] k y at))
zip_get R [] (b ∷ ys) zip k y at = absurd zip
zip_get R (a ∷ xs) [] zip k y at = absurd zip
zip_get R (a ∷ xs) (b ∷ ys) zip zero y at = (a, (refl, subst (λ z. R a z) (some_same b y (Some b) refl at) zip.0))
zip_get R (a ∷ xs) (b ∷ ys) zip (suc k) y at = zip_get R xs ys zip.1 k y at

pub zip_there : {A B : Type 0} (R : A → B → Type 0) (xs : List A) (ys : List B) → AllZip R xs ys → (k : ℕ) (x : A) (y : B) → slice_get xs k ≡ Some x → slice_get ys k ≡ Some y → R x y
zip_there R xs ys zip k x y old new =
    let z = zip_get R xs ys zip k y new in
    subst (λ w. R w y) (some_same z.0 x (slice_get xs k) z.1.0 old) z.1.1

-- one element more fits
pub zip_set : {A B : Type 0} (R : A → B → Type 0) (xs : List A) (ys : List B) (k : ℕ) (y : B) → AllZip R xs ys → ((x : A) → slice_get xs k ≡ Some x → R x y) → AllZip R xs (set ys k y)
zip_set R [] [] k y zip fits = tt
zip_set R [] (b ∷ ys) k y zip fits = absurd zip
zip_set R (a ∷ xs) [] k y zip fits = absurd zip
zip_set R (a ∷ xs) (b ∷ ys) zero y zip fits = (fits a refl, zip.1)
zip_set R (a ∷ xs) (b ∷ ys) (suc k) y zip fits = (zip.0, zip_set R xs ys k y zip.1 fits)
