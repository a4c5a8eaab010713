-- The table of the places of a bank's seats, and what its steps show (own).
use Rattle.std.specs.Prelude.{◌≡◌, ℕ, ◌+◌, ◌*◌, ◌<◌, List, [], ◌∷◌, length, slice_index, Option, Some}
use Rattle.std.specs.Global.{Box, Global}
use Rattle.std.specs.Arc.{arc_value}
use Rattle.std.specs.declared.sync.Arc.{Arc}
use mathlib.Core.Option.{some}
use lib.ListN.{get_elem?}
use Rattle.atomic_table.specs.Table.{State, Me, Step}
use Rattle.lwkt_bank.specs.declared.banks.Bank.{Bank}
use Rattle.lwkt_seats.specs.declared.sitters.Sitter.{Sitter}
use Rattle.lwkt_seats.specs.Seated.{IsSeated}

-- a share of a bank; and a seat in its slot, or none
abbrev pub Share : Type 0
Share = Arc Bank Global

abbrev pub Slot : Type 0
Slot = Option (Box Sitter)

-- the word of the place of a number, which no other place's is near
abbrev pub word_of_place : ℕ → ℕ
word_of_place number = 16 * number + 8

-- the seat of a number is in its slot
abbrev pub IsHome : Bank → List (mathlib.Core.Option.Option Slot) → ℕ → Type 0
IsHome bank homes number = (b : Box Sitter) × ((get_elem? homes number ≡ some (some (Some b))) × IsSeated bank number b.value)

-- where a word is 0, the seat rests
pub record AreAtRest (bank : Bank) (s : State Slot (Share)) : Type 0 where
  pub wide : length s.words ≡ 16 * length s.homes
  pub home : (number : ℕ) → number < length s.homes → slice_index s.words (word_of_place number) ≡ 0 → IsHome bank s.homes number

-- who has taken the seat of a number, with this value
abbrev pub HasTaken : Share → ℕ → Me Slot (Share) → Type 0
HasTaken bank number me = (b : Box Sitter) × ((me ≡ (bank, (number, Some b) ∷ [])) × IsSeated (arc_value bank) number b.value)

-- a swap that found 0 takes the seat
abbrev pub claims : Step Slot → Me Slot (Share) → ℕ → Me Slot (Share) → Type 0
claims step me found new = found ≡ 0 → (number : ℕ) → step.word ≡ word_of_place number → HasTaken me.0 number new

abbrev pub leaves : Step Slot → Me Slot (Share) → ℕ → Me Slot (Share) → Type 0
leaves step me found new = new.0 ≡ me.0
