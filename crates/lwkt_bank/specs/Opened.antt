use Rattle.std.specs.Prelude.{ℕ, ◌*◌, List, [], ◌∷◌, length, map, slice_index, None, Some}
use Rattle.std.specs.List.{flat_map}
use Rattle.lwkt_base.specs.declared.opening_specs.TokSpec.{TokSpec}
use Rattle.lwkt_bank.specs.declared.views.Plan.{Plan}
use Rattle.lwkt_bank.specs.Views.{RecordOf, one_generation}
use Rattle.lwkt_bank.specs.Rule.{law_number}

-- what is declared of a token by its opening
abbrev pub plan_of_spec : TokSpec → Plan
plan_of_spec spec = record { generation = spec.generation; param = spec.param; first = slice_index spec.cells 0 ∷ slice_index spec.cells 1 ∷ slice_index spec.cells 2 ∷ slice_index spec.cells 3 ∷ []; cells = length spec.cells; law = spec.law; blob = spec.blob }

abbrev pub plans_of : List TokSpec → List Plan
plans_of specs = map plan_of_spec specs

-- the words of a token at the opening: the count word, four cells, the law, the parameter, and nine that are unused
abbrev pub block : TokSpec → List ℕ
block spec = (one_generation * spec.generation) ∷ slice_index spec.cells 0 ∷ slice_index spec.cells 1 ∷ slice_index spec.cells 2 ∷ slice_index spec.cells 3 ∷ law_number spec.law ∷ spec.param ∷ 0 ∷ 0 ∷ 0 ∷ 0 ∷ 0 ∷ 0 ∷ 0 ∷ 0 ∷ 0 ∷ []

-- the words of the bank at the opening: one that is always 0, and then each token's
abbrev pub opening_words : List TokSpec → List ℕ
opening_words specs = 0 ∷ flat_map block specs

-- what lies in the slots at the opening: each token's record, and an empty one for a token without
abbrev pub kept_in : RecordOf → List ℕ
kept_in None = []
kept_in (Some bytes) = bytes

abbrev pub slot_of_spec : TokSpec → List ℕ
slot_of_spec spec = kept_in spec.blob

abbrev pub opening_slots : List TokSpec → List (List ℕ)
opening_slots specs = map slot_of_spec specs
