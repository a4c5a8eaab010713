-- Folds over the numbers below one.
use Rattle.std.proofs.Common.{◌≡◌, ℕ, zero, suc, ◌+◌, ap, ◌∙◌, sym, refl, add-zero, arith, List, [], ◌∷◌, ◌++◌, map}
use Rattle.std.specs.Prelude.{fold}
use Rattle.std.specs.List.{range_with_len}
use Rattle.std.proofs.lemmas.List.FromFn.{map-range_with_len_more}
use Rattle.lwkt_plain.specs.Intakes.{below}

fold_on : {B : Type 0} (f : B → ℕ → B) (z : B) (a n : ℕ) → fold f z (range_with_len a (suc n)) ≡ f (fold f z (range_with_len a n)) (a + n)
fold_on f z a zero = ap (f z) (sym (add-zero a))
fold_on f z a (suc n) =
    let e : a + 1 + n ≡ a + suc n = omega arith in
    fold_on f (f z a) (a + 1) n ∙ ap (f (fold f (f z a) (range_with_len (a + 1) n))) e

-- over none
pub fold_none : {B : Type 0} (f : B → ℕ → B) (z : B) → fold f z (below 0) ≡ z
unfolding below
fold_none f z = refl

-- one number more
pub fold_more : {B : Type 0} (f : B → ℕ → B) (z : B) (n : ℕ) → fold f z (below (n + 1)) ≡ f (fold f z (below n)) n
unfolding below
fold_more f z n =
    let e : n + 1 ≡ suc n = omega arith in
    let d : 0 + n ≡ n = omega arith in
    ap (λ m. fold f z (range_with_len 0 m)) e ∙ fold_on f z 0 n ∙ ap (f (fold f z (range_with_len 0 n))) d

-- the same of a list by number
pub map_none : {A : Type 0} (f : ℕ → A) → map f (below 0) ≡ []
unfolding below
map_none f = refl

pub map_more : {A : Type 0} (f : ℕ → A) (n : ℕ) → map f (below (n + 1)) ≡ map f (below n) ++ f n ∷ []
unfolding below
map_more f n = map-range_with_len_more f 0 n n (omega arith)

-- a fold keeps what each step keeps
pub fold_keeps : {B C : Type 0} (g : B → C) (f : B → ℕ → B) → ((b : B) (n : ℕ) → g (f b n) ≡ g b) → (z : B) (xs : List ℕ) → g (fold f z xs) ≡ g z
fold_keeps g f keeps z [] = refl
fold_keeps g f keeps z (x ∷ xs) = fold_keeps g f keeps (f z x) xs ∙ keeps z x
