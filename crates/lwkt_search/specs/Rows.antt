-- Rows: where the turns of the processors lead from a state.
use Rattle.std.specs.Prelude.{◌≡◌, ℕ, ◌<◌, ◌⊎◌, List, length, slice_index_or}

-- the row has the place for some processor
pub record HasPlace (row : List ℕ) (place : ℕ) : Type 0 where
  pub cpu : ℕ
  pub below : cpu < length row
  pub is : slice_index_or row cpu 0 ≡ place

-- the place is the state's own, or the row has it
abbrev pub IsAmong : List ℕ → ℕ → ℕ → Type 0
IsAmong row at place = (place ≡ at) ⊎ HasPlace row place
