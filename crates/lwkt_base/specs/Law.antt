use Rattle.std.specs.Prelude.{◌≡◌, ℕ, ◌+◌, ◌≤◌, List, [], ◌∷◌, All, sum, Option, Some, None, slice_get}
use Rattle.std.specs.List.Sorted.{IsNonDecreasing}
use Rattle.lwkt_base.specs.declared.laws.Law.{Law}
use Rattle.lwkt_base.specs.declared.laws.Law.TheVariants.{Any, Sum, Order, Cap, Tally, Len}

-- there is a record, and the first cell is its length (own)
abbrev pub IsLength : List ℕ → Option ℕ → Type 0
IsLength cells None = ⊥
IsLength cells (Some len) = slice_get cells 0 ≡ Some len

-- what the first row of a token and the length of its first record, if it has one, obey at every moment; of a Tally token nothing is
-- said here, but by IsTallied (own)
abbrev pub Obeys : Law → ℕ → List ℕ → Option ℕ → Type 0
Obeys Any param cells len = Unit {0}
Obeys Sum param cells len = sum cells ≡ param
Obeys Order param cells len = IsNonDecreasing cells
Obeys Cap param cells len = All (λ cell. cell ≤ param) cells
Obeys Tally param cells len = Unit {0}
Obeys Len param cells len = IsLength cells len

-- the same of a token without a record (own)
abbrev pub MeetsLaw : Law → ℕ → List ℕ → Type 0
MeetsLaw law param cells = Obeys law param cells None

-- what the cells, and the length of the record, obey at the opening: their law, and under Tally the one cell is the parameter (own)
abbrev pub OpensLawfully : Law → ℕ → List ℕ → Option ℕ → Type 0
OpensLawfully Any param cells len = Unit {0}
OpensLawfully Sum param cells len = sum cells ≡ param
OpensLawfully Order param cells len = IsNonDecreasing cells
OpensLawfully Cap param cells len = All (λ cell. cell ≤ param) cells
OpensLawfully Tally param cells len = cells ≡ param ∷ []
OpensLawfully Len param cells len = IsLength cells len

-- the one cell of a Tally token is the parameter plus what all processors have added (own)
abbrev pub IsTallied : Law → ℕ → List ℕ → List ℕ → Type 0
IsTallied Any param cells tallies = Unit {0}
IsTallied Sum param cells tallies = Unit {0}
IsTallied Order param cells tallies = Unit {0}
IsTallied Cap param cells tallies = Unit {0}
IsTallied Tally param cells tallies = cells ≡ (param + sum tallies) ∷ []
IsTallied Len param cells tallies = Unit {0}
