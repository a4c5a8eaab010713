-- What is appended to a text by what is said.
use Rattle.std.specs.Prelude.{◌≡◌, ℕ, List, ◌++◌, Bool, true, false, Option, Some, None}
use Rattle.lwkt_checker.specs.Said.{IsFirst, IsSilent}

-- a text of which this holds was appended
abbrev pub Appends : (List ℕ → Type 0) → List ℕ → List ℕ → Type 0
Appends Says old new = (text : List ℕ) × (Says text × (new ≡ old ++ text))

-- what is said was appended, where anything is; the answer is whether anything is
abbrev pub Shows : (Option (List ℕ) → Type 0) → List ℕ → List ℕ → Bool → Type 0
Shows Says old new true = Appends (λ text. Says (Some text)) old new
Shows Says old new false = Says None × (new ≡ old)

-- what is said at the first place at which anything is was appended; the answer is whether there is such a place
abbrev pub ShowsFirst : (ℕ → Option (List ℕ) → Type 0) → List ℕ → List ℕ → Bool → Type 0
ShowsFirst Says old new true = Appends (IsFirst Says) old new
ShowsFirst Says old new false = IsSilent Says × (new ≡ old)
