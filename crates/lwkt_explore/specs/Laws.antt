-- Laws of what is written of a search (own).
use Rattle.std.specs.Prelude.{◌≡◌, ℕ, ◌+◌, List, ◌∷◌, ◌++◌, None, Some, map, slice_get, IsPermutation}
use Rattle.std.specs.List.{flat_map}
use Rattle.lwkt_explore.specs.declared.outcomes.Outcomes.{Outcomes}
use Rattle.lwkt_explore.specs.declared.searches.Found.{Found}
use Rattle.lwkt_explore.specs.Texts.{Form, Group, by_kind, outcome_lines, text_of_found}

-- those that are grouped: the first of them, and its other forms
abbrev pub members : Group → List Form
members t = t.0 ∷ t.1

-- the outcomes, in the order in which they are written, each with its other forms behind it, are those that were found, each once
abbrev pub OutcomesAreWrittenOnce : Type 0
OutcomesAreWrittenOnce = (outcomes : Outcomes) → IsPermutation outcomes.all.items (map (λ (one : Form). one.0) (flat_map members (by_kind outcomes)))

-- these lines stand in a text
pub record StandIn (text lines : List ℕ) : Type 0 where
  pub front : List ℕ
  pub back : List ℕ
  pub there : text ≡ front ++ lines ++ back

-- the lines of each of them, those of its other forms among them, stand in the text, under the number of its place, counted from 1
abbrev pub OutcomesAreNumbered : Type 0
OutcomesAreNumbered =
    (found : Found) (place : ℕ) (t : Group) → slice_get (by_kind found.outcomes) place ≡ Some t → StandIn (text_of_found found) (outcome_lines None found.tried (place + 1) t)
