-- Pieces of a text, and bytes that are shown as they are.
use Rattle.std.proofs.Common.{◌≡◌, ℕ, suc, zero, List, [], ◌∷◌, ◌++◌, append_assoc, Bool, true, false, ◌&&◌, take, refl}
use Rattle.std.specs.List.{list_all}
use Rattle.lwkt_refusals.specs.declared.pages.Page.{Page}
use Rattle.lwkt_refusals.specs.Pages.{GrowsBy}
use Rattle.lwkt_refusals.proofs.Growing.{grows_twice}

-- a text behind a text
pub joined : {old mid new : Page} {first second : List ℕ} → GrowsBy old mid first → GrowsBy mid new second → GrowsBy old new (first ++ second)
joined {old = old} {mid = mid} {new = new} {first = first} {second = second} a b = grows_twice old mid new first second a b

and_kept : (a b c : Bool) → (a && b) ≡ true → (b ≡ true → c ≡ true) → (a && c) ≡ true
and_kept true b c both more = more both
and_kept false b c both more = both

-- what all of a list passes, all of its front does
pub all_of_front : (p : ℕ → Bool) (n : ℕ) (xs : List ℕ) → list_all p xs ≡ true → list_all p (take n xs) ≡ true
all_of_front p zero xs all = refl
all_of_front p (suc n) [] all = refl
all_of_front p (suc n) (x ∷ xs) all = and_kept (p x) (list_all p xs) (list_all p (take n xs)) all (all_of_front p n xs)

-- two texts before four
pub two_and_four : (a b c d e f : List ℕ) → (a ++ b) ++ (c ++ d ++ e ++ f) ≡ a ++ b ++ c ++ d ++ e ++ f
two_and_four a b c d e f = simp append_assoc
