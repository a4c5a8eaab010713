use Rattle.std.specs.Prelude.{◌≡◌, ◌≢◌, ℕ, suc, Bool, true, false, List, [], ◌∷◌, Option, Some, None, IsSomeAnd, slice_get, take}
use Rattle.lwkt_base.specs.declared.names.Ref.{Ref}
use Rattle.lwkt_base.specs.declared.names.CpuId.{CpuId}
use Rattle.lwkt_base.specs.declared.names.TokId.{TokId}
use Rattle.lwkt_base.specs.declared.names.Mode.TheVariants.{Exclusive}
use Rattle.lwkt_base.specs.declared.holdings.Held.TheVariants.{Holds}
use Rattle.lwkt_base.specs.Holding.{is_held, is_exclusive}
use Rattle.lwkt_base.specs.Law.{Obeys}
use Rattle.lwkt_core.specs.declared.events.Event.{Event}
use Rattle.lwkt_core.specs.declared.events.Event.TheVariants.{Write, WriteBlob}
use Rattle.lwkt_core.specs.Tokens.{length_of}
use Rattle.lwkt_hold.specs.declared.answers.Blocked.{Blocked}
use Rattle.lwkt_hold.specs.declared.answers.Blocked.TheVariants.{Clean, Restored}
use Rattle.lwkt_base.specs.Refs.{names}
use Rattle.lwkt_bank.specs.declared.seats.CpuSeat.{CpuSeat}
use Rattle.lwkt_base.specs.declared.sections.Section.{Section}
use Rattle.lwkt_bank.specs.Views.{RecordOf, is_touched, ended_section}
use Rattle.lwkt_bank.specs.Seats.{bank_of, plan_of, entry, holding, IsCleanIn}

-- the row of a token that a seat holds, and the first row of its section
abbrev pub row : CpuSeat → ℕ → List ℕ
row s tok = (entry s tok).row

abbrev pub first_row : CpuSeat → ℕ → List ℕ
first_row s tok = (entry s tok).first

-- the record of a token that a seat holds, and the first record of its section, if the token has one
abbrev pub blob : CpuSeat → ℕ → RecordOf
blob s tok = (entry s tok).blob

abbrev pub first_blob : CpuSeat → ℕ → RecordOf
first_blob s tok = (entry s tok).first_blob

-- whether a cell of a token was stored to since its section began
abbrev pub is_stored_to : CpuSeat → ℕ → ℕ → Bool
is_stored_to s tok cell = is_touched (entry s tok) cell

-- row and record of a token obey its law
abbrev pub MeetsItsLaw : CpuSeat → ℕ → Type 0
MeetsItsLaw s tok = Obeys (plan_of (bank_of s) tok).law (plan_of (bank_of s) tok).param (row s tok) (length_of (blob s tok))

-- row and record of a token are the section's first ones
abbrev pub IsUnwritten : CpuSeat → ℕ → Type 0
IsUnwritten s tok = IsCleanIn (entry s tok)

-- a token is held exclusively, and its row and record don't obey its law
pub record IsBroken (s : CpuSeat) (tok : ℕ) : Type 0 where
  pub exclusive : is_exclusive (holding s tok) ≡ true
  pub broken : ¬ MeetsItsLaw s tok

-- row and first row of a token are as before, and so are record and first record
pub record SameRow (old new : CpuSeat) (tok : ℕ) : Type 0 where
  pub row_is : row new tok ≡ row old tok
  pub first_is : first_row new tok ≡ first_row old tok
  pub blob_is : blob new tok ≡ blob old tok
  pub first_blob_is : first_blob new tok ≡ first_blob old tok

-- row, first row, record, first record and generation of a token are as before, and the cells that were stored to since its section
-- began: a section that is open goes on
pub record SameSection (old new : CpuSeat) (tok : ℕ) : Type 0 where
  pub row_is : row new tok ≡ row old tok
  pub first_is : first_row new tok ≡ first_row old tok
  pub blob_is : blob new tok ≡ blob old tok
  pub first_blob_is : first_blob new tok ≡ first_blob old tok
  pub generation_is : (entry new tok).generation ≡ (entry old tok).generation
  pub touched_is : (entry new tok).touched ≡ (entry old tok).touched

-- the section of a token that would end now
abbrev pub section_now : CpuSeat → TokId → Section
section_now s tok = ended_section tok.0 (entry s tok.0)

-- the events of storing these values in the cells of a token, from a cell on
abbrev pub write_events : CpuId → TokId → ℕ → List (Option ℕ) → List Event
write_events cpu tok cell [] = []
write_events cpu tok cell (None ∷ values) = write_events cpu tok (suc cell) values
write_events cpu tok cell (Some value ∷ values) = Write cpu tok cell value ∷ write_events cpu tok (suc cell) values

-- the event of storing a record, if one is stored
abbrev pub record_write_events : CpuId → TokId → RecordOf → List Event
record_write_events cpu tok None = []
record_write_events cpu tok (Some bytes) = WriteBlob cpu tok bytes ∷ []

-- what is done to the row and record of a token when a reference to it is given back: a section that ends and has broken its law
-- gets its first row and first record back, and no other row or record changes
pub record GivesBack (old new : CpuSeat) (tok : ℕ) (restored : Bool) : Type 0 where
  pub others : (other : ℕ) → other ≢ tok → SameSection old new other
  pub still : is_held (holding new tok) ≡ true → SameSection old new tok
  pub yes : restored ≡ true → IsBroken old tok × (row new tok ≡ first_row old tok) × (is_held (holding new tok) ≡ false)
  pub no : restored ≡ false → (row new tok ≡ row old tok) × (is_held (holding new tok) ≡ false → ¬ IsBroken old tok)
  pub yes_blob : restored ≡ true → blob new tok ≡ first_blob old tok
  pub no_blob : restored ≡ false → blob new tok ≡ blob old tok

-- what is done to the row and record of a token before a reference to it is given back: if the reference ends a section that has
-- broken its law, they become the first ones; else none changes, and those that are written obey the law
pub record Mends (old new : CpuSeat) (tok : ℕ) (restored : Bool) : Type 0 where
  pub first_is : first_row new tok ≡ first_row old tok
  pub first_blob_is : first_blob new tok ≡ first_blob old tok
  pub generation_is : restored ≡ false → (entry new tok).generation ≡ (entry old tok).generation
  pub touched_is : restored ≡ false → (entry new tok).touched ≡ (entry old tok).touched
  pub others : (other : ℕ) → other ≢ tok → SameSection old new other
  pub yes : restored ≡ true → IsBroken old tok × (holding old tok ≡ Holds Exclusive 0) × (row new tok ≡ first_row old tok)
  pub no : restored ≡ false → (row new tok ≡ row old tok) × (holding old tok ≡ Holds Exclusive 0 → MeetsItsLaw old tok)
  pub yes_blob : restored ≡ true → blob new tok ≡ first_blob old tok
  pub no_blob : restored ≡ false → blob new tok ≡ blob old tok

-- the row of each token that is held is its section's first row, and the record its first record
pub record IsAllClean (s : CpuSeat) : Type 0 where
  pub each : (tok : ℕ) → is_held (holding s tok) ≡ true → row s tok ≡ first_row s tok
  pub records : (tok : ℕ) → is_held (holding s tok) ≡ true → blob s tok ≡ first_blob s tok

-- the row of this token has become this one; its first row, its record and first record, and all of every other are as before
pub record OnlyRow (old new : CpuSeat) (tok : ℕ) (cells : List ℕ) : Type 0 where
  pub row_is : row new tok ≡ cells
  pub first_is : first_row new tok ≡ first_row old tok
  pub blob_is : blob new tok ≡ blob old tok
  pub first_blob_is : first_blob new tok ≡ first_blob old tok
  pub others : (other : ℕ) → other ≢ tok → SameRow old new other

-- the record of this token has become this one; its first record, its row and first row, and all of every other are as before
pub record OnlyRecord (old new : CpuSeat) (tok : ℕ) (bytes : RecordOf) : Type 0 where
  pub blob_is : blob new tok ≡ bytes
  pub first_blob_is : first_blob new tok ≡ first_blob old tok
  pub row_is : row new tok ≡ row old tok
  pub first_is : first_row new tok ≡ first_row old tok
  pub others : (other : ℕ) → other ≢ tok → SameRow old new other

-- a token that is broken, such that every other broken token has a reference in front of the first reference to it
pub record IsFirstBroken (s : CpuSeat) (refs : List Ref) (tok : ℕ) : Type 0 where
  pub is_broken : IsBroken s tok
  pub place : ℕ
  pub at_place : IsSomeAnd (slice_get refs place) (λ r. r.tok.0 ≡ tok)
  pub is_first : names (take place refs) tok ≡ false
  pub others_in_front : (other : ℕ) → IsBroken s other → other ≢ tok → names (take place refs) other ≡ true

-- what is done to rows and records when references are given back: of a token that isn't held any more, broken ones are the first
-- ones again, and any others are as before; a token that is still held has its row, record, generation and mode as before
pub record GivenUp (old now : CpuSeat) : Type 0 where
  pub same : (tok : ℕ) → is_held (holding now tok) ≡ true → SameSection old now tok × (is_exclusive (holding now tok) ≡ is_exclusive (holding old tok))
  pub given : (tok : ℕ) → is_held (holding now tok) ≡ false → (IsBroken old tok → row now tok ≡ first_row old tok) × (¬ IsBroken old tok → row now tok ≡ row old tok)
  pub records : (tok : ℕ) → is_held (holding now tok) ≡ false → (IsBroken old tok → blob now tok ≡ first_blob old tok) × (¬ IsBroken old tok → blob now tok ≡ blob old tok)

-- the first token that was restored so far, if any was
abbrev pub IsFirstSoFar : CpuSeat → List Ref → CpuSeat → Option TokId → Type 0
IsFirstSoFar old refs now None = (tok : ℕ) → is_held (holding now tok) ≡ false → ¬ IsBroken old tok
IsFirstSoFar old refs now (Some tok) = IsFirstBroken old refs tok.0

-- the first token that is restored, after one more reference was given back
abbrev pub first_of : Option TokId → Bool → TokId → Option TokId
first_of (Some first) restored tok = Some first
first_of None true tok = Some tok
first_of None false tok = None

-- what giving up everything says: which token was restored first, or that none had broken its law
abbrev pub Blocks : CpuSeat → List Ref → Blocked → Type 0
Blocks old refs Clean = (tok : ℕ) → ¬ IsBroken old tok
Blocks old refs (Restored tok) = IsFirstBroken old refs tok.0
