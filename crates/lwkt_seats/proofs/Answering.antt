-- A call on a seat that was taken from its place answers what it did.
use Rattle.std.proofs.Common.{◌≡◌, ℕ, ◌<◌, List, [], ◌∷◌, ap, sym, ◌∙◌, refl, subst, inr}
use Rattle.std.specs.Prelude.{Option, Some}
use Rattle.std.specs.Global.{Box}
use Rattle.std_alloc.specs.Box.{with_value}
use Rattle.std.specs.Arc.{arc_value}
use Rattle.lwkt_base.specs.declared.names.CpuId.{CpuId}
use Rattle.lwkt_bank.specs.declared.banks.Bank.{Bank}
use Rattle.lwkt_bank.specs.declared.seats.CpuSeat.{CpuSeat}
use Rattle.lwkt_bank.specs.Seats.{id_of}
use Rattle.atomic_table.specs.declared.shared.Seat.{Seat}
use Rattle.atomic_table.specs.Table.{Me, rest}
use Rattle.atomic_table.specs.Lent.{seat_with}
use Rattle.lwkt_seats.specs.declared.sitters.Sitter.{Sitter}
use Rattle.lwkt_seats.specs.declared.desks.Desk.{Desk}
use Rattle.lwkt_seats.specs.Places.{Share, Slot, HasTaken}
use Rattle.lwkt_seats.specs.Seated.{IsSeated, StaysSeated}
use Rattle.lwkt_seats.specs.Desks.{seats_of, bank_at, HasSeat, IsSeatAt, IsDeskAnswer}

-- a seat of a place is that of its number, and so it is after a call
pub seat_at : (desk : Desk) (number : ℕ) (s : Sitter) → number < seats_of desk → IsSeated (bank_at desk) number s → IsSeatAt desk number s.seat
seat_at desk number s there seated = (there, s.of ∙ ap (λ (b : Bank). id_of b) seated.0, seated.1)

pub stays : (bank : Bank) (number : ℕ) (old new : Sitter) → IsSeated bank number old → StaysSeated old new → IsSeated bank number new
stays bank number old new seated same = (same.bank ∙ seated.0, ap (λ (c : CpuId). c.0) same.seat.1 ∙ seated.1)

pub answered : (bank : Option Desk) (desk : Desk) (number : ℕ) (old new : Sitter) (Does : CpuSeat → CpuSeat → ℕ → Type 0) (answer : ℕ)
    → bank ≡ Some desk → number < seats_of desk → IsSeated (bank_at desk) number old → StaysSeated old new → Does old.seat new.seat answer → IsDeskAnswer bank number Does answer
answered bank desk number old new Does answer is there seated same does =
    let F : Option Desk → Type 0 = λ b. IsDeskAnswer b number Does answer in
    subst F (sym is) (inr (old.seat, (new.seat, (seat_at desk number old there seated, seat_at desk number new there (stays (bank_at desk) number old new seated same), does))))

-- what is in the slot that was taken
abbrev first_in : Slot → List (ℕ × Slot) → Slot
first_in d [] = d
first_in d (x ∷ xs) = x.1

first_value : (number : ℕ) (x y : Slot) (xs : List (ℕ × Slot)) → (number, x) ∷ [] ≡ (number, y) ∷ xs → x ≡ y
first_value number x y xs is = ap (first_in x) is

pub slot_is : (share : Share) (number : ℕ) (me : Me Slot Share) (out : HasTaken share number me) (found : Slot) → me.1 ≡ (number, found) ∷ rest me.1 → found ≡ Some out.0
slot_is share number me out found is = sym (first_value number (Some out.0) found (rest me.1) (sym (ap (λ (m : Me Slot Share). m.1) out.1.0) ∙ is))

some_box : (a b : Box Sitter) → Some a ≡ Some b → a ≡ b
some_box a b is = cc

pub seated_in : (share : Share) (number : ℕ) (me : Me Slot Share) → HasTaken share number me → (found : Slot) (b : Box Sitter) → me.1 ≡ (number, found) ∷ rest me.1 → found ≡ Some b → IsSeated (arc_value share) number b.value
seated_in share number me out found b is some =
    let F : Box Sitter → Type 0 = λ x. IsSeated (arc_value share) number x.value in
    subst F (some_box out.0 b (sym (slot_is share number me out found is) ∙ some)) out.1.1

-- who has taken a seat has its slot first
pub holds_slot : (share : Share) (number : ℕ) (me : Me Slot Share) → HasTaken share number me → (old : Slot) × (me.1 ≡ (number, old) ∷ rest me.1)
holds_slot share number me out =
    let F : Me Slot Share → Type 0 = λ m. (old : Slot) × (m.1 ≡ (number, old) ∷ rest m.1) in
    subst F (sym out.1.0) (Some out.0, refl)

abbrev pub with_slot : ℕ → Slot → Me Slot Share → Me Slot Share
with_slot number x me = (me.0, (number, x) ∷ rest me.1)

pub filled : (share : Share) (number : ℕ) (x y : Slot) (me : Me Slot Share) → me ≡ (share, (number, y) ∷ []) → with_slot number x me ≡ (share, (number, x) ∷ [])
filled share number x y me is = ap (with_slot number x) is

-- a call works on the seat in its slot
module _ (desk : Desk) (number : ℕ) (hand : Seat Slot Share) (has : HasSeat desk number hand) (found : Slot) (at : hand.me.1 ≡ (number, found) ∷ rest hand.me.1) (b : Box Sitter) (is : found ≡ Some b) (held : Sitter) (box : held ≡ b.value) (new : Sitter) (same : StaysSeated held new) where
  pub seated_held : IsSeated (bank_at desk) number held
  seated_held = subst (IsSeated (bank_at desk) number) (sym box) (seated_in desk.places.shared.key number hand.me has.2 found b at is)

  pub goes_back : HasSeat desk number (seat_with hand number (Some (with_value b new)))
  goes_back = (has.0, has.1, (with_value b new, (filled desk.places.shared.key number (Some (with_value b new)) (Some has.2.0) hand.me has.2.1.0, stays (bank_at desk) number held new seated_held same)))

  pub answers : (bank : Option Desk) (Does : CpuSeat → CpuSeat → ℕ → Type 0) (answer : ℕ) → bank ≡ Some desk → Does held.seat new.seat answer → IsDeskAnswer bank number Does answer
  answers bank Does answer of does = answered bank desk number held new Does answer of has.0 seated_held same does
