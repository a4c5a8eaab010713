use Rattle.std.specs.Prelude.{◌≡◌, ◌≢◌, ◌⊎◌, ℕ, Bool, false, List, [], ◌∷◌, ◌++◌, IsSomeAnd, slice_get, take}
use Rattle.lwkt_base.specs.declared.faults.Fault.{Fault}
use Rattle.lwkt_base.specs.declared.faults.Fault.TheVariants.{Busy as IsBusy, Again as IsAgain, Worn as WasWorn}
use Rattle.lwkt_base.specs.declared.names.TokId.{TokId}
use Rattle.lwkt_base.specs.declared.names.Mode.{Mode}
use Rattle.lwkt_base.specs.declared.names.Mode.TheVariants.{Exclusive}
use Rattle.lwkt_base.specs.declared.names.Ref.{Ref}
use Rattle.lwkt_base.specs.declared.words.Decision.TheVariants.{Take, Held, Marked, Worn as IsWorn}
use Rattle.lwkt_table.specs.declared.seats.WordStep.{WordStep}
use Rattle.lwkt_bank.specs.declared.seats.CpuSeat.{CpuSeat}
use Rattle.lwkt_bank.specs.Seats.{steps_of, Decides}
use Rattle.lwkt_bank.specs.Views.{load, exchange}
use Rattle.lwkt_hold.specs.declared.answers.Missed.{Missed}
use Rattle.lwkt_hold.specs.declared.answers.Missed.TheVariants.{Busy, Again, Worn}
use Rattle.lwkt_base.specs.Refs.{is_alone, names}

-- the steps of a try that was missed: a load of the word that was refused, or a load of a word that can be taken and an
-- exchange that found another (own)
abbrev pub IsMiss : ℕ → Mode → Bool → Missed → List WordStep → Type 0
IsMiss tok mode alone (Busy word) steps = (Decides word mode alone Held ⊎ Decides word mode alone Marked) × (steps ≡ load tok word ∷ [])
IsMiss tok mode alone Again steps = (word next found : ℕ) × (Decides word mode alone (Take next) × (found ≢ word) × (steps ≡ load tok word ∷ exchange tok word next found ∷ []))
IsMiss tok mode alone Worn steps = (word : ℕ) × (Decides word mode alone IsWorn × (steps ≡ load tok word ∷ []))

-- the reference of this place is the first one to its token, and among a seat's steps in a call are those of a missed try for it
pub record Misses (old new : CpuSeat) (refs : List Ref) (place : ℕ) (why : Missed) : Type 0 where
  pub earlier : List WordStep
  pub missed : List WordStep
  pub later : List WordStep
  pub steps : steps_of new ≡ steps_of old ++ (earlier ++ (missed ++ later))
  pub is_miss : IsSomeAnd (slice_get refs place) (λ r. (names (take place refs) r.tok.0 ≡ false) × IsMiss r.tok.0 r.mode (is_alone refs r.tok.0) why missed)

-- the refusal for each miss
abbrev pub fault_of : Missed → Fault
fault_of (Busy word) = IsBusy
fault_of Again = IsAgain
fault_of Worn = WasWorn

-- an exclusive reference to the token
abbrev pub exclusive : TokId → Ref
exclusive tok = record { tok = tok; mode = Exclusive }

-- a word is one that `decide` refuses for the reference of a place, which is the first one to its token (own)
abbrev pub IsRefusing : List Ref → ℕ → ℕ → Type 0
IsRefusing refs place word = IsSomeAnd (slice_get refs place) (λ r. (names (take place refs) r.tok.0 ≡ false) × (Decides word r.mode (is_alone refs r.tok.0) Held ⊎ Decides word r.mode (is_alone refs r.tok.0) Marked))
