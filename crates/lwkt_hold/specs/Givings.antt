use Rattle.std.specs.Prelude.{◌≡◌, ◌≢◌, ◌⊎◌, ℕ, Bool, true, ◌==◌, ◌<◌, if◌then◌else◌, List, [], ◌∷◌, ◌++◌, Option, Some, slice_get, slice_index}
use Rattle.lwkt_base.specs.declared.names.CpuId.{CpuId}
use Rattle.lwkt_base.specs.declared.names.TokId.{TokId}
use Rattle.lwkt_base.specs.declared.names.Mode.TheVariants.{Exclusive, Shared}
use Rattle.lwkt_base.specs.declared.names.Ref.{Ref}
use Rattle.lwkt_base.specs.declared.holdings.Held.{Held}
use Rattle.lwkt_base.specs.declared.holdings.Held.TheVariants.{Nothing, Holds}
use Rattle.lwkt_base.specs.Holding.{holding_of}
use Rattle.lwkt_core.specs.declared.events.Event.{Event}
use Rattle.lwkt_core.specs.declared.events.Event.TheVariants.{GiveOne, GiveClean, GiveWritten}
use Rattle.lwkt_bank.specs.declared.seats.CpuSeat.{CpuSeat}
use Rattle.lwkt_bank.specs.Views.{RecordOf}
use Rattle.lwkt_bank.specs.Seats.{bank_of, plan_of, entry, holding, written_over, PutsFirst}
use Rattle.lwkt_hold.specs.Rows.{row, first_row, is_stored_to, section_now, IsUnwritten, MeetsItsLaw, GivesBack, write_events, record_write_events}

-- the event of giving a reference to a token back of which so much is held, and whose row and record are its first ones
abbrev pub gives : CpuId → TokId → Held → Event
gives cpu tok Nothing = GiveOne cpu tok
gives cpu tok (Holds Shared further) = GiveOne cpu tok
gives cpu tok (Holds Exclusive further) = if further == 0 then GiveClean cpu tok else GiveOne cpu tok

-- the events of giving references back in reverse order, those in front of them staying held, where no row or record was changed
abbrev pub gives_all : CpuId → List Ref → List Ref → List Event
gives_all cpu front [] = []
gives_all cpu front (r ∷ refs) = gives_all cpu (front ++ r ∷ []) refs ++ gives cpu r.tok (holding_of (front ++ r ∷ []) r.tok.0) ∷ []

-- the event of giving a reference to a token back: one reference less, or the end of a section, which is written exactly if row
-- or record differ from the first ones, and then names the section (own)
abbrev pub GivesBy : CpuSeat → TokId → Event → Type 0
GivesBy s tok event =
    ((holding s tok.0 ≢ Holds Exclusive 0) × (event ≡ GiveOne s.cpu tok))
    ⊎ ((holding s tok.0 ≡ Holds Exclusive 0) × IsUnwritten s tok.0 × (event ≡ GiveClean s.cpu tok))
    ⊎ ((holding s tok.0 ≡ Holds Exclusive 0) × (¬ IsUnwritten s tok.0) × (event ≡ GiveWritten s.cpu tok (section_now s tok)))

-- these values are the first values of exactly the cells of a token that were stored to since its section began, each at its cell's
-- place; stored in their cells they make its row the section's first row
pub record StoresFirst (s : CpuSeat) (tok : ℕ) (values : List (Option ℕ)) : Type 0 where
  pub makes_first : written_over 0 values (row s tok) ≡ first_row s tok
  pub inside : (cell value : ℕ) → slice_get values cell ≡ Some (Some value) → cell < (plan_of (bank_of s) tok).cells
  pub only : (cell value : ℕ) → slice_get values cell ≡ Some (Some value) → (is_stored_to s tok cell ≡ true) × (value ≡ slice_index (first_row s tok) cell)
  pub each : (cell : ℕ) → cell < (plan_of (bank_of s) tok).cells → is_stored_to s tok cell ≡ true → slice_get values cell ≡ Some (Some (slice_index (first_row s tok) cell))

-- the events of a restore, and behind them these: the stores of the first values of exactly the cells that were stored to, rising, and
-- of the first record exactly if the record was another
abbrev pub RestoresBy : CpuSeat → TokId → List Event → List Event → Type 0
RestoresBy s tok behind events = (values : List (Option ℕ)) × ((bytes : RecordOf) × (StoresFirst s tok.0 values × PutsFirst (entry s tok.0) bytes × (events ≡ write_events s.cpu tok 0 values ++ (record_write_events s.cpu tok bytes ++ behind))))

-- the events of giving a reference back to a token of which so much is held: one reference less; or the end of a section, which
-- is clean or written, and where the law is broken the events of a restore and then a clean end (own)
abbrev pub Releases : CpuSeat → Held → TokId → List Event → Type 0
Releases s held tok events =
    ((held ≢ Holds Exclusive 0) × (events ≡ GiveOne s.cpu tok ∷ []))
    ⊎ ((held ≡ Holds Exclusive 0) × MeetsItsLaw s tok.0 × IsUnwritten s tok.0 × (events ≡ GiveClean s.cpu tok ∷ []))
    ⊎ ((held ≡ Holds Exclusive 0) × MeetsItsLaw s tok.0 × (¬ IsUnwritten s tok.0) × (events ≡ GiveWritten s.cpu tok (section_now s tok) ∷ []))
    ⊎ ((held ≡ Holds Exclusive 0) × ¬ MeetsItsLaw s tok.0 × RestoresBy s tok (GiveClean s.cpu tok ∷ []) events)

-- what the release of the last reference of a list says, which is to this token: the list is the rest, the events are those of
-- giving the reference back, and its section's first row and record were stored again or not
pub record ReleasesLast (old new : CpuSeat) (refs rest : List Ref) (tok : TokId) (restored : Bool) (before now : List Event) : Type 0 where
  pub last : Ref
  pub popped : refs ≡ rest ++ last ∷ []
  pub to_it : last.tok.0 ≡ tok.0
  pub done : List Event
  pub traced : now ≡ before ++ done
  pub releases : Releases old (holding old tok.0) tok done
  pub rows : GivesBack old new tok.0 restored

-- the events of giving references back in reverse order, those in front of them staying held
abbrev pub ReleasesAll : CpuSeat → List Ref → List Ref → List Event → Type 0
ReleasesAll s front [] events = events ≡ []
ReleasesAll s front (r ∷ refs) events = (later : List Event) × ((last : List Event) × (ReleasesAll s (front ++ r ∷ []) refs later × Releases s (holding_of (front ++ r ∷ []) r.tok.0) r.tok last × (events ≡ later ++ last)))
