-- A list whose items are each read as they are written is read so.
use Rattle.std.proofs.Common.{◌≡◌, ℕ, suc, ◌+◌, ◌≤◌, ◌<◌, List, [], ◌∷◌, ◌++◌, length, map, Result, Ok, All, refl, sym, ap, ◌∙◌, arith, append_assoc, append-nil}
use Rattle.std.proofs.lemmas.List.{length-append}
use Rattle.serde_json.specs.Data.{Data}
use Rattle.serde_json.specs.Events.{items_len}
use Rattle.lwkt_script.specs.Format.{cell}
use Rattle.lwkt_script.specs.Outcome.{◌>>=◌, each}
use Rattle.lwkt_trace.specs.Readback.{number_data, items_as}

-- each item is read where there is room for it
abbrev pub ReadsEach : {A B : Type 0} → (List B → Data → Result B ℕ) → (A → Data) → (A → B) → (A → Type 0) → ℕ → Type 0
ReadsEach {A} {B} f value stated P most = (before : List B) (x : A) → P x → length before < most → f before (value x) ≡ Ok (stated x)

pub list_read : {A B : Type 0} (f : List B → Data → Result B ℕ) (value : A → Data) (stated : A → B) (P : A → Type 0) (most : ℕ) → ReadsEach f value stated P most
    → (before : List B) (xs : List A) → All P xs → length before + length xs ≤ most → each f before (items_as value xs) ≡ Ok (before ++ map stated xs)
list_read {A} {B} f value stated P most next before [] all room = ap (λ (l : List B). Ok l) (sym (append-nil before))
list_read {A} {B} f value stated P most next before (x ∷ xs) all room =
    let more : length (before ++ stated x ∷ []) ≡ length before + 1 = length-append before (stated x ∷ []) in
    let first : P x = all 0 x (omega arith) in
    let others : All P xs = λ k d l. all (suc k) d (omega (arith, l)) in
    ap (λ (r : Result B ℕ). r >>= λ y. each f (before ++ y ∷ []) (items_as value xs)) (next before x first (omega (arith, room)))
    ∙ list_read f value stated P most next (before ++ stated x ∷ []) xs others (omega (arith, more, room)) ∙ ap (λ (l : List B). Ok l) (append_assoc before (stated x ∷ []) (map stated xs))

-- numbers are read wherever they stand
pub numbers_read : {A : Type 0} (place : ℕ) (number : A → ℕ) (before : List ℕ) (xs : List A) → each (cell place) before (items_as (λ x. number_data (number x)) xs) ≡ Ok (before ++ map number xs)
numbers_read {A} place number before [] = ap (λ (l : List ℕ). Ok l) (sym (append-nil before))
numbers_read {A} place number before (x ∷ xs) = numbers_read place number (before ++ number x ∷ []) xs ∙ ap (λ (l : List ℕ). Ok l) (append_assoc before (number x ∷ []) (map number xs))

pub map_same : {A : Type 0} (xs : List A) → map (λ x. x) xs ≡ xs
map_same [] = refl
map_same (x ∷ xs) = ap (λ l. x ∷ l) (map_same xs)

pub cells_read : (place : ℕ) (cells : List ℕ) → each (cell place) [] (items_as number_data cells) ≡ Ok cells
cells_read place cells = numbers_read place (λ n. n) [] cells ∙ ap (λ (l : List ℕ). Ok l) (map_same cells)

-- there are as many items as values
pub items_counted : {A : Type 0} (value : A → Data) (xs : List A) → items_len (items_as value xs) ≡ length xs
items_counted value [] = refl
items_counted value (x ∷ xs) = ap (λ (n : ℕ). suc n) (items_counted value xs)
