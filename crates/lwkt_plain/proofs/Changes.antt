-- One element of a list changed.
use Rattle.std.proofs.Common.{◌≡◌, ℕ, ◌<◌, ◌≤◌, ◌+◌, ◌++◌, take, drop, List, length, get_or, set, ap, ◌∙◌, refl, sym, Option, Some, None, map}
use Rattle.std.specs.Prelude.{slice_get, slice_set}
use Rattle.std.specs.Option.{option_map_or}
use Rattle.std.proofs.lemmas.Option.{slice_get_past, slice_get_within, get_or_from_slice_get, slice_get-get_or}
use Rattle.std.proofs.lemmas.List.{get_or-set_same, get_or-set_other, set-get_or, get_or_past, map-set}
use Rattle.std.proofs.lemmas.List.Edits.{map_over_more}
use Rattle.lwkt_core.specs.Machine.{changed}

-- at an element that is there
pub changed_in : {A : Type 0} (f : A → A) (xs : List A) (i : ℕ) (x : A) → slice_get xs i ≡ Some x → changed f xs i ≡ set xs i (f x)
changed_in f xs i x at = ap (λ o. option_map_or (λ y. slice_set xs i (f y)) o xs) at

-- and past the end
pub changed_out : {A : Type 0} (f : A → A) (xs : List A) (i : ℕ) → length xs ≤ i → changed f xs i ≡ xs
changed_out f xs i past = ap (λ o. option_map_or (λ y. slice_set xs i (f y)) o xs) (slice_get_past xs i past)

-- an element put back
pub set_back : {A : Type 0} (xs : List A) (i : ℕ) (x : A) → slice_get xs i ≡ Some x → set xs i x ≡ xs
set_back xs i x at = ap (set xs i) (sym (get_or_from_slice_get xs i x x at)) ∙ set-get_or xs i x

-- a loop that changes each element, one more
pub mapped_more : {A : Type 0} (f : A → A) (xs ys : List A) (i : ℕ) (x : A) → i < length xs → ys ≡ map f (take i xs) ++ drop i xs → slice_get ys i ≡ Some x → slice_set ys i (f x) ≡ map f (take (i + 1) xs) ++ drop (i + 1) xs
mapped_more f xs ys i x lt is at = map_over_more f xs ys i x lt is (sym (get_or_from_slice_get ys i x x at))

-- what a function of the elements doesn't tell apart
map_changed_by : {A B : Type 0} (g : A → B) (f : A → A) (xs : List A) (i : ℕ) (o : Option A) → slice_get xs i ≡ o → ((x : A) → g (f x) ≡ g x) → map g (option_map_or (λ y. slice_set xs i (f y)) o xs) ≡ map g xs
map_changed_by g f xs i None at same = refl
map_changed_by g f xs i (Some x) at same =
    map-set g xs i (f x) ∙ ap (set (map g xs) i) (same x) ∙ sym (map-set g xs i x) ∙ ap (map g) (set_back xs i x at)

pub map_changed : {A B : Type 0} (g : A → B) (f : A → A) (xs : List A) (i : ℕ) → ((x : A) → g (f x) ≡ g x) → map g (changed f xs i) ≡ map g xs
map_changed g f xs i same = map_changed_by g f xs i (slice_get xs i) refl same

-- the element that was changed
pub get_or_changed : {A : Type 0} (f : A → A) (xs : List A) (i : ℕ) (d : A) → i < length xs → get_or (changed f xs i) i d ≡ f (get_or xs i d)
get_or_changed {A} f xs i d inside =
    ap (λ (ys : List A). get_or ys i d) (changed_in f xs i (get_or xs i d) (slice_get-get_or xs i d inside)) ∙ get_or-set_same xs i (f (get_or xs i d)) d inside
