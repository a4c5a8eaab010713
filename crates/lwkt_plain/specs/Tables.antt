-- Parts of one kind by their numbers.
use Rattle.std.specs.Prelude.{◌≡◌, ℕ, ◌<◌, List, [], ◌∷◌, ◌++◌, length, Some, slice_get, slice_index_or}
use Rattle.std.specs.Option.{option_map_or}
use Rattle.lwkt_search.specs.Indexes.{IsIndex}

-- the key of the part of a number
abbrev pub key_at : {P : Type 0} → (P → ℕ) → List P → ℕ → ℕ
key_at hash parts k = option_map_or hash (slice_get parts k) 0

-- parts, each once, with an index
pub record IsTable {P : Type 0} (hash : P → ℕ) (parts : List P) (heads links : List ℕ) : Type 0 where
  pub index : IsIndex (key_at hash parts) heads links (length parts)
  pub distinct : (i j : ℕ) → i < j → j < length parts → (d : P) → slice_index_or parts i d ≡ slice_index_or parts j d → ⊥
  pub few : length parts < 4294967296

-- a list with more behind it
pub record Extends {P : Type 0} (old new : List P) : Type 0 where
  pub more : List P
  pub is : new ≡ old ++ more

-- the part of a number is this one
pub record IsNamed {P : Type 0} (parts : List P) (number : ℕ) (part : P) : Type 0 where
  pub there : number < length parts
  pub is : (d : P) → slice_index_or parts number d ≡ part

-- the parts of these numbers
abbrev pub named : {P : Type 0} → List P → List ℕ → List P
named parts [] = []
named parts (n ∷ numbers) = option_map_or (λ p. p ∷ named parts numbers) (slice_get parts n) (named parts numbers)

-- the parts are those of these numbers, one by one
pub record AreNamed {P : Type 0} (table parts : List P) (numbers : List ℕ) : Type 0 where
  pub long : length parts ≡ length numbers
  pub each : (k : ℕ) → k < length numbers → (d : P) → IsNamed table (slice_index_or numbers k 0) (slice_index_or parts k d)

-- each part may have become what it is of the one of its number, by its place
pub record AreFollowed {P : Type 0} (follows : ℕ → P → P → Type 0) (table parts : List P) (numbers : List ℕ) : Type 0 where
  pub each : (k : ℕ) → k < length numbers → (old new : P) → slice_get table (slice_index_or numbers k 0) ≡ Some old → slice_get parts k ≡ Some new → follows k old new
