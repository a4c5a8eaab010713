-- The places of a bank's seats at the opening (own).
use Rattle.std.specs.Prelude.{ℕ, ◌<◌, List, [], ◌∷◌, length, flat_map, slice_index_or, Some, None, IfSome}
use Rattle.lwkt_bank.specs.declared.banks.Bank.{Bank}
use Rattle.lwkt_seats.specs.Seated.{IsSeated}
use Rattle.lwkt_seats.specs.Places.{Slot}

-- each slot that isn't empty has the seat of its number
abbrev pub AreSlotsOf : Bank → List Slot → Type 0
AreSlotsOf bank slots = (number : ℕ) → number < length slots → IfSome (slice_index_or slots number None) (λ x. IsSeated bank number x.value)

-- the word of a place whose slot this is: 0 where the seat rests, else 1
abbrev pub state_of_place : Slot → ℕ
state_of_place (Some x) = 0
state_of_place None = 1

abbrev pub words_of_place : Slot → List ℕ
words_of_place slot = 0 ∷ 0 ∷ 0 ∷ 0 ∷ 0 ∷ 0 ∷ 0 ∷ 0 ∷ state_of_place slot ∷ 0 ∷ 0 ∷ 0 ∷ 0 ∷ 0 ∷ 0 ∷ 0 ∷ []

abbrev pub words_of_places : List Slot → List ℕ
words_of_places slots = flat_map words_of_place slots
