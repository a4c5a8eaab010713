-- Laws and records as tests.
use Rattle.std.proofs.Common.{◌≡◌, ◌<◌, ◌≤◌, ℕ, zero, suc, List, [], ◌∷◌, length, get_or, refl, ap, sym, ◌∙◌, arith, Option, Some, None, Bool, true, false, Decides}
use Rattle.std.specs.Prelude.{slice_get, All, sum, bytes_eq, IsTrue, ◌↔◌, ◌==◌, ◌&&◌, nat_le}
use Rattle.std.specs.List.{list_all}
use Rattle.std.specs.List.Sorted.{IsNonDecreasing}
use Rattle.std.specs.Option.{option_eq}
use Rattle.std.proofs.lemmas.Bool.{eqb-true, eq-eqb, leb-true, le-leb, and_parts, false≢true}
use Rattle.std.proofs.lemmas.Bool.Decides.{same_from_decides, Decides-eqb}
use Rattle.std.proofs.lemmas.List.Sums.{AllPass-from_list_all, list_all-from_AllPass}
use Rattle.std.proofs.lemmas.Option.{none-some, same_Some}
use Rattle.std.proofs.lemmas.Slice.Eq.{bytes_eq-Decides}
use Rattle.lwkt_base.specs.declared.laws.Law.{Law}
use Rattle.lwkt_base.specs.declared.laws.Law.TheVariants.{Any, Sum, Order, Cap, Tally, Len}
use Rattle.lwkt_base.specs.Law.{Obeys, IsTallied}
use Rattle.lwkt_plain.specs.Tokens.{obeys, do_not_fall}

-- cells that don't fall
falls_on : (low x : ℕ) (xs : List ℕ) → low ≤ x → All (λ (y : ℕ). x ≤ y) xs × IsNonDecreasing xs → All (λ (y : ℕ). low ≤ y) (x ∷ xs) × IsNonDecreasing (x ∷ xs)
falls_on low x xs first rest = (all, rise)
  where
    all : All (λ (y : ℕ). low ≤ y) (x ∷ xs)
    all zero d inside = first
    all (suc k) d inside = (let more : x ≤ get_or xs k d = rest.0 k d (omega arith) in omega (arith, more, first))

    rise : IsNonDecreasing (x ∷ xs)
    rise zero zero d le inside = omega arith
    rise zero (suc j) d le inside = rest.0 j d (omega arith)
    rise (suc i) zero d le inside = absurd (omega arith)
    rise (suc i) (suc j) d le inside = rest.1 i j d (omega arith) (omega arith)

falls_not : (low : ℕ) (cells : List ℕ) → do_not_fall low cells ≡ true → All (λ (x : ℕ). low ≤ x) cells × IsNonDecreasing cells
falls_not low [] is = (λ k d inside. absurd (omega arith), λ i j d le inside. absurd (omega arith))
falls_not low (x ∷ xs) is =
    let parts = and_parts (nat_le low x) (do_not_fall x xs) is in
    falls_on low x xs (leb-true low x parts.0) (falls_not x xs parts.1)

and_from : (a b : Bool) → a ≡ true → b ≡ true → (a && b) ≡ true
and_from true true one other = refl
and_from true false one other = other
and_from false b one other = one

rises : (low : ℕ) (cells : List ℕ) → All (λ (x : ℕ). low ≤ x) cells → IsNonDecreasing cells → do_not_fall low cells ≡ true
rises low [] all rise = refl
rises low (x ∷ xs) all rise =
    and_from (nat_le low x) (do_not_fall x xs) (le-leb low x (all 0 x (omega arith)))
    (rises x xs (λ k d inside. rise 0 (suc k) d (omega arith) (omega arith)) (λ i j d le inside. rise (suc i) (suc j) d (omega arith) (omega arith)))

decides_order : (cells : List ℕ) → Decides (do_not_fall 0 cells) (IsNonDecreasing cells)
decides_order cells = (λ is. (falls_not 0 cells is).1, λ rise. rises 0 cells (λ k d inside. omega arith) rise)

decides_cap : (param : ℕ) (cells : List ℕ) → Decides (list_all (λ (cell : ℕ). nat_le cell param) cells) (All (λ (cell : ℕ). cell ≤ param) cells)
decides_cap param cells = (
  λ is k d inside. leb-true (get_or cells k d) param (AllPass-from_list_all (λ (cell : ℕ). nat_le cell param) cells is k d inside),
  λ all. list_all-from_AllPass (λ (cell : ℕ). nat_le cell param) cells (λ k d inside. le-leb (get_or cells k d) param (all k d inside)),
)

decides_length : (o : Option ℕ) (len : ℕ) → Decides (option_eq (λ (a b : ℕ). a == b) o (Some len)) (o ≡ Some len)
decides_length None len = (λ is. absurd (false≢true is), λ is. absurd (none-some len is))
decides_length (Some x) len = (λ is. ap (λ (y : ℕ). Some y) (eqb-true x len is), λ is. eq-eqb x len (same_Some x len is))

decides_law : (law : Law) (param : ℕ) (cells : List ℕ) (len : Option ℕ) → Decides (obeys law param cells len) (Obeys law param cells len)
decides_law Any param cells len = (λ is. tt, λ is. refl)
decides_law Sum param cells len = Decides-eqb (sum cells) param
decides_law Order param cells len = decides_order cells
decides_law Cap param cells len = decides_cap param cells
decides_law Tally param cells len = (λ is. tt, λ is. refl)
decides_law Len param cells None = (λ is. absurd (false≢true is), λ no. absurd no)
decides_law Len param cells (Some len) = decides_length (slice_get cells 0) len

-- a test that holds exactly of what obeys a law is the one of the specification
pub lawful_test : (b : Bool) (law : Law) (param : ℕ) (cells : List ℕ) (len : Option ℕ) → IsTrue b ↔ Obeys law param cells len → b ≡ obeys law param cells len
lawful_test b law param cells len is = same_from_decides b (obeys law param cells len) (is.0, is.1) (decides_law law param cells len)

pub obeys_is : (law : Law) (param : ℕ) (cells : List ℕ) (len : Option ℕ) → obeys law param cells len ≡ true → Obeys law param cells len
obeys_is law param cells len is = (decides_law law param cells len).0 is

-- a section that has broken its law isn't one of a Tally token
pub untallied : (law : Law) (param : ℕ) (cells first tallies : List ℕ) (len : Option ℕ) → obeys law param cells len ≡ false → IsTallied law param first tallies
untallied Any param cells first tallies len broken = tt
untallied Sum param cells first tallies len broken = tt
untallied Order param cells first tallies len broken = tt
untallied Cap param cells first tallies len broken = tt
untallied Tally param cells first tallies len broken = absurd (false≢true (sym broken))
untallied Len param cells first tallies len broken = tt

-- the same records
decides_blobs : (one other : Option (List ℕ)) → Decides (option_eq bytes_eq one other) (one ≡ other)
decides_blobs None None = (λ is. refl, λ is. refl)
decides_blobs None (Some y) = (λ is. absurd (false≢true is), λ is. absurd (none-some y is))
decides_blobs (Some x) None = (λ is. absurd (false≢true is), λ is. absurd (none-some x (sym is)))
decides_blobs (Some x) (Some y) = (λ is. ap (λ (z : List ℕ). Some z) ((bytes_eq-Decides x y).0 is), λ is. (bytes_eq-Decides x y).1 (same_Some x y is))

pub tested_blobs : (b : Bool) (one other : Option (List ℕ)) → IsTrue b ↔ (one ≡ other) → b ≡ option_eq bytes_eq one other
tested_blobs b one other is = same_from_decides b (option_eq bytes_eq one other) (is.0, is.1) (decides_blobs one other)

pub same_blobs : (one other : Option (List ℕ)) → option_eq bytes_eq one other ≡ true → one ≡ other
same_blobs one other is = (decides_blobs one other).0 is

pub not_same_blobs : (one other : Option (List ℕ)) → option_eq bytes_eq one other ≡ false → ¬ (one ≡ other)
not_same_blobs one other isnt same = false≢true (sym isnt ∙ (decides_blobs one other).1 same)
