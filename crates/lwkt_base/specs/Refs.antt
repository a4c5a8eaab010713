use Rattle.std.specs.Prelude.{◌≡◌, ℕ, ◌==◌, Bool, List, [], ◌∷◌, ◌++◌, All, Option, Some, option_map, find, count_by}
use Rattle.std.specs.List.{list_all, list_any}
use Rattle.lwkt_base.specs.declared.names.Mode.{Mode}
use Rattle.lwkt_base.specs.declared.names.Mode.TheVariants.{Shared}
use Rattle.lwkt_base.specs.declared.names.Ref.{Ref}

-- whether a reference is to the token
abbrev pub is_to : ℕ → Ref → Bool
is_to tok r = r.tok.0 == tok

-- whether a list has a reference to the token
abbrev pub names : List Ref → ℕ → Bool
names refs tok = list_any (is_to tok) refs

-- whether a list has no reference to another token (own)
abbrev pub is_alone : List Ref → ℕ → Bool
is_alone refs tok = list_all (is_to tok) refs

-- the mode of the first reference to the token, if there is one
abbrev pub first_mode : List Ref → ℕ → Option Mode
first_mode refs tok = option_map (λ r. r.mode) (find (is_to tok) refs)

-- how many references to the token there are
abbrev pub references_to : List Ref → ℕ → ℕ
references_to refs tok = count_by (is_to tok) refs

-- a token whose first reference is shared has only shared references (own)
abbrev pub IsLawfulList : List Ref → Type 0
IsLawfulList refs = (tok : ℕ) → first_mode refs tok ≡ Some Shared → All (λ r. r.tok.0 ≡ tok → r.mode ≡ Shared) refs

-- the last reference is to the token
abbrev pub IsLastTo : List Ref → ℕ → Type 0
IsLastTo refs tok = (front : List Ref) × ((last : Ref) × ((refs ≡ front ++ (last ∷ [])) × (last.tok.0 ≡ tok)))

-- there are two most recent references, and they are to one token
abbrev pub EndsInOneToken : List Ref → Type 0
EndsInOneToken refs = (front : List Ref) × ((before : Ref) × ((last : Ref) × ((refs ≡ front ++ (before ∷ last ∷ [])) × (before.tok.0 ≡ last.tok.0))))

-- the two most recent references have changed places
abbrev pub AreExchanged : List Ref → List Ref → Type 0
AreExchanged old new = (front : List Ref) × ((before : Ref) × ((last : Ref) × ((old ≡ front ++ (before ∷ last ∷ [])) × (new ≡ front ++ (last ∷ before ∷ [])))))
