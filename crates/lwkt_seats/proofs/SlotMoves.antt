-- The seats that an opening hands out, put into slots in order.
use Rattle.std.proofs.Common.{◌≡◌, ◌⊎◌, ℕ, zero, suc, ◌+◌, ◌<◌, inl, inr, List, [], ◌∷◌, ◌++◌, length, refl, ap, sym, subst, arith}
use Rattle.std.specs.Prelude.{slice_index_or, None, IfSome}
use Rattle.lwkt_bank.specs.declared.banks.Bank.{Bank}
use Rattle.lwkt_bank.specs.declared.seats.CpuSeat.{CpuSeat}
use Rattle.lwkt_bank.specs.Seats.{BankId, bank_of}
use Rattle.lwkt_bank.specs.Gathered.{IsNew, AreHandedOut}
use Rattle.lwkt_seats.specs.Seated.{IsSeated}
use Rattle.lwkt_seats.specs.Places.{Slot}
use Rattle.lwkt_seats.specs.FirstPlaces.{AreSlotsOf}

at_end : (xs ys : List CpuSeat) (y s : CpuSeat) → slice_index_or (xs ++ y ∷ ys) (length xs) s ≡ y
at_end [] ys y s = refl
at_end (x ∷ xs) ys y s = at_end xs ys y s

inside : (xs ys : List CpuSeat) (y : CpuSeat) → length xs < length (xs ++ y ∷ ys)
inside [] ys y = omega arith
inside (x ∷ xs) ys y = let r = inside xs ys y in omega arith

-- the next seat is of the bank, new, and that of its number
pub handed : (bank : BankId) (all xs ys : List CpuSeat) (y : CpuSeat) → all ≡ xs ++ y ∷ ys → AreHandedOut bank all → (bank_of y ≡ bank) × IsNew y × (y.cpu.0 ≡ length xs)
handed bank all xs ys y is out =
    let there : AreHandedOut bank (xs ++ y ∷ ys) = subst (AreHandedOut bank) is out in
    let F : CpuSeat → Type 0 = λ s. (bank_of s ≡ bank) × IsNew s × (s.cpu.0 ≡ length xs) in
    subst F (at_end xs ys y y) (there.each (length xs) y (inside xs ys y))

pub joined : (xs ys : List CpuSeat) (y : CpuSeat) → (xs ++ y ∷ []) ++ ys ≡ xs ++ y ∷ ys
joined [] ys y = refl
joined (x ∷ xs) ys y = ap (λ (zs : List CpuSeat). x ∷ zs) (joined xs ys y)

seats_more : (xs : List CpuSeat) (y : CpuSeat) → length (xs ++ y ∷ []) ≡ length xs + 1
seats_more [] y = refl
seats_more (x ∷ xs) y = let r = seats_more xs y in omega arith

slots_more : (xs : List Slot) (y : Slot) → length (xs ++ y ∷ []) ≡ length xs + 1
slots_more [] y = refl
slots_more (x ∷ xs) y = let r = slots_more xs y in omega arith

pub as_many : (slots : List Slot) (new : Slot) (seats : List CpuSeat) (seat : CpuSeat) → length slots ≡ length seats → length (slots ++ new ∷ []) ≡ length (seats ++ seat ∷ [])
as_many slots new seats seat e = let a = slots_more slots new in let b = seats_more seats seat in omega arith

-- what is in a slot after one more, and which slot it is
abbrev IsAt : List Slot → Slot → ℕ → Type 0
IsAt xs y k = ((k < length xs) × (slice_index_or (xs ++ y ∷ []) k None ≡ slice_index_or xs k None)) ⊎ ((k ≡ length xs) × (slice_index_or (xs ++ y ∷ []) k None ≡ y))

further : (x : Slot) (xs : List Slot) (y : Slot) (k : ℕ) → IsAt xs y k → IsAt (x ∷ xs) y (suc k)
further x xs y k (inl at) = let w = at.0 in inl (omega arith, at.1)
further x xs y k (inr at) = let w = at.0 in inr (omega arith, at.1)

placed : (xs : List Slot) (y : Slot) (k : ℕ) → k < length (xs ++ y ∷ []) → IsAt xs y k
placed [] y zero within = inr (refl, refl)
placed [] y (suc k) within = absurd (omega arith)
placed (x ∷ xs) y zero within = inl (omega arith, refl)
placed (x ∷ xs) y (suc k) within = further x xs y k (placed xs y k (omega arith))

abbrev Fits : Bank → ℕ → Slot → Type 0
Fits bank k slot = IfSome slot (λ x. IsSeated bank k x.value)

kept : (bank : Bank) (slots : List Slot) (new : Slot) → AreSlotsOf bank slots → Fits bank (length slots) new → (k : ℕ) → IsAt slots new k → Fits bank k (slice_index_or (slots ++ new ∷ []) k None)
kept bank slots new are fits k (inl here) = subst (Fits bank k) (sym here.1) (are k here.0)
kept bank slots new are fits k (inr here) =
    let F : ℕ → Type 0 = λ n. Fits bank n new in
    subst (Fits bank k) (sym here.1) (subst F (sym here.0) fits)

pub pushed : (bank : Bank) (slots : List Slot) (new : Slot) → AreSlotsOf bank slots → Fits bank (length slots) new → AreSlotsOf bank (slots ++ new ∷ [])
pushed bank slots new are fits = λ k within. kept bank slots new are fits k (placed slots new k within)
