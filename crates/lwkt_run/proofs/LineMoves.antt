use Rattle.std.proofs.Common.{◌≡◌, ◌∙◌, ap, sym, ℕ, ◌+◌, List, [], ◌∷◌, ◌++◌, map, take, get_or}
use Rattle.std.specs.Prelude.{slice_get, Some}
use Rattle.std.proofs.lemmas.List.{take_more, map-append}
use Rattle.std.proofs.lemmas.Option.{slice_get_within, get_or_from_slice_get}

-- one line more shows one value more
pub grown : {A B : Type 0} (f : A → B) (xs ys : List A) (x : A) (zs : List B) (i : ℕ) → ys ≡ xs ++ x ∷ [] → map f xs ≡ take i zs → slice_get zs i ≡ Some (f x) → map f ys ≡ take (i + 1) zs
grown {A} {B} f xs ys x zs i same shown there =
    let more : take (i + 1) zs ≡ take i zs ++ get_or zs i (f x) ∷ [] = take_more zs i (f x) (slice_get_within zs i (f x) there) in
    let is : get_or zs i (f x) ≡ f x = get_or_from_slice_get zs i (f x) (f x) there in
    let last : take i zs ++ get_or zs i (f x) ∷ [] ≡ take i zs ++ f x ∷ [] = ap (λ (z : B). take i zs ++ z ∷ []) is in
    let front : map f xs ++ f x ∷ [] ≡ take i zs ++ f x ∷ [] = ap (λ (l : List B). l ++ f x ∷ []) shown in
    ap (map f) same ∙ map-append f xs (x ∷ []) ∙ front ∙ sym last ∙ sym more
