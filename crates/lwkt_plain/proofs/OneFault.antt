-- A fault is known by its number, and by the one that it carries.
use Rattle.std.proofs.Common.{◌≡◌, ℕ, ◌-◌, List, [], ◌∷◌, get_or, refl, ap, sym, ◌∙◌}
use Rattle.lwkt_base.specs.declared.faults.Fault.{Fault}
use Rattle.lwkt_base.specs.declared.faults.Fault.TheVariants.{ListFull, Upgrade, NotLast, NotHeld, SwapSame, SwapShort, NoToken, NoCell, SharedWrite, Broken, Worn, Overflow, TallyOnly, Busy, LaneFull, NotOwner, NotOut, NotAbortable, NotDropable, SelfDo, NoPort, NotTaken, Memory, Script, Again, Unlawful, RoundsOut, SharedRecord, RecordLong, Limits, LawBroken, Assertion}
use Rattle.lwkt_base.specs.Fault.{number_of, no_memory}
use Rattle.lwkt_plain.specs.Faults.{carried}

-- the faults by their numbers, from 10 on; those that carry a number carry this one
faults : ℕ → List Fault
faults n = ListFull ∷ Upgrade ∷ NotLast ∷ NotHeld ∷ SwapSame ∷ SwapShort ∷ NoToken ∷ NoCell ∷ SharedWrite ∷ Broken ∷ Worn ∷ Overflow ∷ TallyOnly ∷ Busy ∷ LaneFull ∷ NotOwner ∷ NotOut ∷ NotAbortable ∷ NotDropable ∷ SelfDo ∷ NoPort ∷ NotTaken ∷ no_memory ∷ Script n ∷ Again ∷ Unlawful n ∷ RoundsOut ∷ SharedRecord ∷ RecordLong ∷ Limits ∷ LawBroken ∷ Assertion ∷ Assertion ∷ []

of_numbers : ℕ → ℕ → Fault
of_numbers number more = get_or (faults more) (number - 10) Assertion

known : (f : Fault) → of_numbers (number_of f) (carried f) ≡ f
unfolding faults of_numbers
known ListFull = refl
known Upgrade = refl
known NotLast = refl
known NotHeld = refl
known SwapSame = refl
known SwapShort = refl
known NoToken = refl
known NoCell = refl
known SharedWrite = refl
known Broken = refl
known Worn = refl
known Overflow = refl
known TallyOnly = refl
known Busy = refl
known LaneFull = refl
known NotOwner = refl
known NotOut = refl
known NotAbortable = refl
known NotDropable = refl
known SelfDo = refl
known NoPort = refl
known NotTaken = refl
known (Memory refused) = refl
known (Script place) = refl
known Again = refl
known (Unlawful index) = refl
known RoundsOut = refl
known SharedRecord = refl
known RecordLong = refl
known Limits = refl
known LawBroken = refl
known Assertion = refl

pub one_fault : (f g : Fault) → number_of f ≡ number_of g → carried f ≡ carried g → f ≡ g
one_fault f g number more = sym (known f) ∙ ap (λ (n : ℕ). of_numbers n (carried f)) number ∙ ap (of_numbers (number_of g)) more ∙ known g
