use Rattle.std.specs.Prelude.{◌≡◌, ◌≢◌, ℕ, Bool, true, false, List, [], ◌∷◌, ◌++◌, Some, slice_get, Vec}
use Rattle.std.specs.declared.alloc.Global.{Global}
use Rattle.lwkt_base.specs.declared.names.Ref.{Ref}
use Rattle.lwkt_core.specs.declared.events.Event.{Event}
use Rattle.lwkt_bank.specs.declared.seats.CpuSeat.{CpuSeat}
use Rattle.lwkt_bank.specs.Seats.{steps_of, Looked}
use Rattle.lwkt_bank.specs.Views.{load}
use Rattle.lwkt_hold.specs.Fronts.{IsFront}
use Rattle.lwkt_hold.specs.Runs.{Ran}

-- what a look at the token of the reference of a place says: the seat's steps grow by one load of its word, of the seat nothing
-- else changes but the generation that it knows, and the answer is whether the load found this word (own)
pub record Stays (old new : CpuSeat) (refs : List Ref) (place word : ℕ) (still : Bool) : Type 0 where
  pub at : Ref
  pub at_place : slice_get refs place ≡ Some at
  pub found : ℕ
  pub looked : Looked old new at.tok.0 found
  pub steps : steps_of new ≡ steps_of old ++ load at.tok.0 found ∷ []
  pub yes : still ≡ true → found ≡ word
  pub no : still ≡ false → found ≢ word

-- what a seat did has no event, over any trace and whatever is to be held
abbrev pub RunsUnseen : CpuSeat → CpuSeat → Type 0
RunsUnseen old new = (refs : List Ref) (t : Vec Event Global) → Ran (IsFront refs) 0 old new t t
