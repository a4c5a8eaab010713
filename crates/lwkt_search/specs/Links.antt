-- How the states of a search were found.
use Rattle.std.specs.Prelude.{ℕ, ◌+◌, List, [], ◌∷◌, ◌++◌, slice_index_or}

-- the turn that led to a state: the place of the state that it was made in, its processor, and how many turns lead to the state
pub record Link : Type 0 where
  pub parent : ℕ
  pub cpu : ℕ
  pub depth : ℕ

-- how many turns lead to a state whose turn was made in the one at a place: one more than to that; none to the first state
abbrev pub depth_by : List Link → ℕ → ℕ
depth_by [] parent = 0
depth_by (link ∷ links) parent = (slice_index_or (link ∷ links) parent link).depth + 1

-- what is noted next, behind other links
abbrev pub link_by : List Link → ℕ → ℕ → Link
link_by links parent cpu = record { parent = parent; cpu = cpu; depth = depth_by links parent }

-- links behind others, by the places that their turns were made in, and by their processors
abbrev pub links_behind : List Link → List ℕ → List ℕ → List Link
links_behind before [] cpus = before
links_behind before (parent ∷ parents) [] = before
links_behind before (parent ∷ parents) (cpu ∷ cpus) = links_behind (before ++ link_by before parent cpu ∷ []) parents cpus
