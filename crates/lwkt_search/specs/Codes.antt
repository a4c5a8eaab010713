-- Codes: lists of numbers of one length, one behind another.
use Rattle.std.specs.Prelude.{◌≡◌, ℕ, ◌+◌, ◌*◌, ◌%◌, ◌<◌, ◌⊎◌, List, [], ◌∷◌, ◌++◌, length, take, drop}
use Rattle.lwkt_search.specs.Indexes.{IsIndex}

-- a key with one number more
abbrev pub mixed : ℕ → ℕ → ℕ
mixed key n = (key * 1099511628211 % 18446744073709551616 + n) % 18446744073709551616

-- the key of numbers behind those of this key
abbrev pub key_behind : ℕ → List ℕ → ℕ
key_behind key [] = key
key_behind key (n ∷ numbers) = key_behind (mixed key n) numbers

-- the code of a number
abbrev pub code_at : ℕ → List ℕ → ℕ → List ℕ
code_at width flat k = take width (drop (k * width) flat)

-- so many codes, each once, with an index
pub record AreCodes (width : ℕ) (flat : List ℕ) (count : ℕ) (heads links : List ℕ) : Type 0 where
  pub long : length flat ≡ count * width
  pub index : IsIndex (λ k. key_behind 0 (code_at width flat k)) heads links count
  pub distinct : (i j : ℕ) → i < j → j < count → code_at width flat i ≡ code_at width flat j → ⊥
  pub few : count < 4294967296

-- the code is there, under this number
pub record IsCoded (width : ℕ) (flat : List ℕ) (count : ℕ) (code : List ℕ) (number : ℕ) : Type 0 where
  pub there : number < count
  pub is : code_at width flat number ≡ code

-- it is nowhere
abbrev pub IsUncoded : ℕ → List ℕ → ℕ → List ℕ → Type 0
IsUncoded width flat count code = (k : ℕ) → k < count → code_at width flat k ≡ code → ⊥

-- a code that was there before: nothing changes
pub record WasCoded (width : ℕ) (flat : List ℕ) (count : ℕ) (new : List ℕ) (count' : ℕ) (code : List ℕ) (number : ℕ) : Type 0 where
  pub same : new ≡ flat
  pub still : count' ≡ count
  pub at : IsCoded width flat count code number

-- a new one, which comes last
pub record IsAppended (width : ℕ) (flat : List ℕ) (count : ℕ) (new : List ℕ) (count' : ℕ) (code : List ℕ) (number : ℕ) : Type 0 where
  pub more : new ≡ flat ++ code
  pub one : count' ≡ count + 1
  pub last : number ≡ count
  pub fresh : IsUncoded width flat count code

-- the number of a code, and what is kept then
abbrev pub IsNumbered : ℕ → List ℕ → ℕ → List ℕ → ℕ → List ℕ → ℕ → Type 0
IsNumbered width flat count new count' code number = WasCoded width flat count new count' code number ⊎ IsAppended width flat count new count' code number
