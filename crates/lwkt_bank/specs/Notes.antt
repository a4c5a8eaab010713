use Rattle.std.specs.Prelude.{◌≡◌, ◌≢◌, ℕ, ◌+◌, ◌-◌, ◌<◌, ◌≤◌, ◌==◌, if◌then◌else◌, Bool, true, false, List, [], ◌∷◌, length, slice_index, slice_index_or, slice_set, Some, is_some}
use Rattle.lwkt_base.specs.declared.names.CpuId.{CpuId}
use Rattle.lwkt_base.specs.declared.names.Mode.{Mode}
use Rattle.lwkt_base.specs.declared.names.Mode.TheVariants.{Exclusive}
use Rattle.lwkt_base.specs.declared.laws.Law.TheVariants.{Tally}
use Rattle.lwkt_base.specs.declared.holdings.Held.{Held}
use Rattle.lwkt_base.specs.declared.holdings.Held.TheVariants.{Nothing, Holds}
use Rattle.lwkt_base.specs.declared.limits.TheConstants.{CELL_LIMIT, RECORD_LIMIT}
use Rattle.lwkt_base.specs.Holding.{references_in, is_held, is_exclusive}
use Rattle.lwkt_table.specs.declared.seats.SeatKind.{SeatKind}
use Rattle.lwkt_table.specs.declared.seats.SeatKind.TheVariants.{Clerk, Of, Spent}
use Rattle.lwkt_bank.specs.declared.views.Plan.{Plan}
use Rattle.lwkt_bank.specs.declared.views.TokenEntry.{TokenEntry}
use Rattle.lwkt_bank.specs.declared.views.View.{View}
use Rattle.lwkt_bank.specs.declared.notes.Change.{Change}
use Rattle.lwkt_bank.specs.declared.notes.Touch.{Touch}
use Rattle.lwkt_bank.specs.declared.notes.Touch.TheVariants.{Untouched, Same, Other}
use Rattle.lwkt_bank.specs.declared.notes.TokenNote.{TokenNote}
use Rattle.lwkt_bank.specs.Views.{RecordOf, at, amount, is_touched}
use Rattle.lwkt_bank.specs.Rule.{plan_at}

-- whose seat a view is, by number: no two have the same
abbrev pub seat_number : SeatKind → ℕ
seat_number (Of cpu) = cpu.0 + 1
seat_number (Clerk made back) = 0
seat_number Spent = 0

abbrev pub clerk_number : SeatKind → ℕ
clerk_number (Clerk made back) = back + 1
clerk_number (Of cpu) = 0
clerk_number Spent = 0

-- what is kept of a token that was never taken, and what stands for a note past the last
abbrev pub no_note : TokenNote
no_note = record { first_blob = []; record_ = Untouched; first = 0 ∷ 0 ∷ 0 ∷ 0 ∷ []; last = 0 ∷ 0 ∷ 0 ∷ 0 ∷ []; tally = 0; cells = Untouched ∷ Untouched ∷ Untouched ∷ Untouched ∷ []; mode = Exclusive; references = 0 }

abbrev pub note_at : List TokenNote → ℕ → TokenNote
note_at notes tok = slice_index_or notes tok no_note

abbrev pub touch_at : TokenNote → ℕ → Touch
touch_at note cell = slice_index_or note.cells cell Untouched

-- what the note says that the seat holds
abbrev pub held_in : TokenNote → Held
held_in note = if note.references == 0 then Nothing else Holds note.mode (note.references - 1)

-- how a cell stands after a store
abbrev pub touch_of : Change → Touch
touch_of change = if change.first == change.last then Same else Other

-- the note after the token was taken, and after a store to a cell
abbrev pub begun : TokenNote → Mode → TokenNote
begun note mode = record note { record_ = Untouched; cells = Untouched ∷ Untouched ∷ Untouched ∷ Untouched ∷ []; mode = mode; references = 1 }

abbrev pub note_changed : TokenNote → ℕ → Change → TokenNote
note_changed note cell change = record note { first = slice_set note.first cell change.first; last = slice_set note.last cell change.last; cells = slice_set note.cells cell (touch_of change) }

-- the note after the record was written: its first one is kept, and whether it is another now
abbrev pub note_wrote : TokenNote → List ℕ → Touch → TokenNote
note_wrote note first touch = record note { first_blob = first; record_ = touch }

-- whether a cell was stored to, and whether it has another value than its first
abbrev pub is_stored : Touch → Bool
is_stored Untouched = false
is_stored Same = true
is_stored Other = true

abbrev pub is_other : Touch → Bool
is_other Untouched = false
is_other Same = false
is_other Other = true

-- the first record that is kept after one more write over this one
abbrev pub first_record : TokenNote → List ℕ → List ℕ
first_record note old = if is_stored note.record_ then note.first_blob else old

-- how a record stands that was written: whether it is another than the section's first one
pub record IsTouchOf (touch : Touch) (first new : List ℕ) : Type 0 where
  pub stored_to : is_stored touch ≡ true
  pub same : is_other touch ≡ false → new ≡ first
  pub other : is_other touch ≡ true → new ≢ first

-- what becomes of a note as the record, which was the first of these, is written and is the second
abbrev pub Overwrites : TokenNote → TokenNote → List ℕ → List ℕ → Type 0
Overwrites note note' old new = (touch : Touch) × ((note' ≡ note_wrote note (first_record note old) touch) × IsTouchOf touch (first_record note old) new)

-- how a cell stands: the first value that is kept of it, its value in the first row, and its value
pub record IsTouched (touch : Touch) (kept first value : ℕ) : Type 0 where
  pub first_kept : is_stored touch ≡ true → kept ≡ first
  pub same : is_other touch ≡ false → value ≡ first
  pub other : is_other touch ≡ true → value ≢ first

-- how the record stands: the first one that is kept of it, the section's first record, and the record
pub record IsRecordTouched (touch : Touch) (kept : List ℕ) (first value : RecordOf) : Type 0 where
  pub first_kept : is_stored touch ≡ true → first ≡ Some kept
  pub same : is_other touch ≡ false → value ≡ first
  pub other : is_other touch ≡ true → value ≢ first

-- what a seat keeps at run time of a token is what its view says; how the cells stand only while it is held exclusively, and the
-- value of a cell only where it was stored to in the section
pub record IsNoted (plan : Plan) (cpu : ℕ) (e : TokenEntry) (note : TokenNote) : Type 0 where
  pub four : length note.cells ≡ CELL_LIMIT
  pub firsts : length note.first ≡ CELL_LIMIT
  pub lasts : length note.last ≡ CELL_LIMIT
  pub tally : note.tally ≡ amount cpu e.added
  pub own : (other : ℕ) → other ≢ cpu → amount other e.added ≡ 0
  pub long : is_held e.held ≡ true → (length e.first ≡ plan.cells) × (length e.row ≡ plan.cells)
  pub references : note.references ≡ references_in e.held
  pub few : note.references ≤ 256
  pub mode : is_held e.held ≡ true → is_exclusive e.held ≡ is_exclusive (Holds note.mode 0)
  pub touched : (cell : ℕ) → is_exclusive e.held ≡ true → IsTouched (touch_at note cell) (slice_index note.first cell) (slice_index e.first cell) (slice_index e.row cell)
  pub stored_to : (cell : ℕ) → cell < plan.cells → is_exclusive e.held ≡ true → is_stored (touch_at note cell) ≡ is_touched e cell
  pub latest : (cell : ℕ) → is_exclusive e.held ≡ true → is_stored (touch_at note cell) ≡ true → slice_index note.last cell ≡ slice_index e.row cell
  pub covered : plan.law ≡ Tally → is_exclusive e.held ≡ true → is_stored (touch_at note 0) ≡ true → amount cpu e.added ≤ slice_index e.row 0
  pub record_touched : is_exclusive e.held ≡ true → IsRecordTouched note.record_ note.first_blob e.first_blob e.blob
  pub guarded : is_held e.held ≡ true → (is_some e.blob ≡ is_some plan.blob) × (is_some e.first_blob ≡ is_some plan.blob)
  pub short : is_held e.held ≡ true → (bytes : List ℕ) → e.first_blob ≡ Some bytes → length bytes ≤ RECORD_LIMIT

-- what a seat keeps at run time is what its view says, the view is that of its processor, and it holds no token that isn't there
pub record Keeps (notes : List TokenNote) (cpu : CpuId) (v : View) : Type 0 where
  pub seat : seat_number v.kind ≡ cpu.0 + 1
  pub each : (tok : ℕ) → tok < length v.plans → IsNoted (plan_at v.plans tok) cpu.0 (at v.tokens tok) (note_at notes tok)
  pub within : (tok : ℕ) → is_held (at v.tokens tok).held ≡ true → tok < length v.plans
