-- What calls on the cells of a token do, by their answer.
use Rattle.std.specs.Prelude.{◌≡◌, ◌≢◌, ℕ, ◌+◌, ◌^◌, ◌<◌, ◌≤◌, true, false, [], ◌∷◌, ◌++◌, List, Option, slice_index}
use Rattle.lwkt_base.specs.declared.laws.Law.TheVariants.{Tally}
use Rattle.lwkt_base.specs.Holding.{is_held, is_exclusive}
use Rattle.lwkt_bank.specs.declared.seats.CpuSeat.{CpuSeat}
use Rattle.lwkt_bank.specs.Views.{RecordOf, read, stored, raised}
use Rattle.lwkt_bank.specs.Deeds.{reads, writes}
use Rattle.lwkt_bank.specs.Seats.{bank_of, plan_of, entry, holding, Changes, Knowing, IsUnchanged, Restored, first_load}
use Rattle.lwkt_seats.specs.Asks.{IsThere, IsMissing, ObeysItsLaw, Asked_for}
use Rattle.lwkt_seats.specs.declared.answers.Loaded.{Loaded}
use Rattle.lwkt_seats.specs.declared.answers.Loaded.TheVariants as loaded
use Rattle.lwkt_seats.specs.declared.answers.Stored.{Stored}
use Rattle.lwkt_seats.specs.declared.answers.Stored.TheVariants as done
use Rattle.lwkt_seats.specs.declared.answers.Added.{Added}
use Rattle.lwkt_seats.specs.declared.answers.Added.TheVariants as added
use Rattle.lwkt_seats.specs.declared.answers.Judged.{Judged}
use Rattle.lwkt_seats.specs.declared.answers.Judged.TheVariants as judged
use Rattle.lwkt_seats.specs.declared.answers.RowRestored.{RowRestored}
use Rattle.lwkt_seats.specs.declared.answers.RowRestored.TheVariants as restored

-- the token has such a cell
abbrev pub HasCell : CpuSeat → ℕ → ℕ → Type 0
HasCell s tok cell = IsThere s tok × (cell < (plan_of (bank_of s) tok).cells)

-- it has none, or there is no such token
abbrev pub Lacks : ℕ → ℕ → CpuSeat → Loaded → Type 0
Lacks tok cell s loaded.NoToken = IsMissing s tok
Lacks tok cell s loaded.NoCell = IsThere s tok × ((plan_of (bank_of s) tok).cells ≤ cell)
Lacks tok cell s loaded.NotHeld = ⊥
Lacks tok cell s (loaded.Value value) = ⊥

-- the token isn't held, is held shared, is held exclusively
abbrev pub IsUnheld : CpuSeat → ℕ → Type 0
IsUnheld s tok = is_held (holding s tok) ≡ false

abbrev pub IsShared : CpuSeat → ℕ → Type 0
IsShared s tok = (is_held (holding s tok) ≡ true) × (is_exclusive (holding s tok) ≡ false)

abbrev pub IsMine : CpuSeat → ℕ → Type 0
IsMine s tok = is_exclusive (holding s tok) ≡ true

abbrev pub Loads : ℕ → ℕ → CpuSeat → CpuSeat → Loaded → Type 0
Loads tok cell old new (loaded.Value value) = HasCell old tok cell × (is_held (holding old tok) ≡ true) × (value ≡ slice_index (entry old tok).row cell)
    × Changes old new tok (read (entry old tok) cell) (reads old.cpu tok cell value ∷ [])
Loads tok cell old new loaded.NoToken = IsMissing old tok × (new ≡ old)
Loads tok cell old new loaded.NoCell = IsThere old tok × ((plan_of (bank_of old) tok).cells ≤ cell) × (new ≡ old)
Loads tok cell old new loaded.NotHeld = HasCell old tok cell × IsUnheld old tok × (new ≡ old)

abbrev pub StoresInCell : ℕ → ℕ → ℕ → CpuSeat → CpuSeat → Stored → Type 0
StoresInCell tok cell value old new done.Stored = HasCell old tok cell × IsMine old tok × ((plan_of (bank_of old) tok).law ≢ Tally)
    × Knowing old new tok (stored (entry old tok) cell value) (first_load old.cpu tok (entry old tok) cell ++ writes old.cpu tok cell value ∷ [])
StoresInCell tok cell value old new done.NoToken = IsMissing old tok × (new ≡ old)
StoresInCell tok cell value old new done.NoCell = IsThere old tok × ((plan_of (bank_of old) tok).cells ≤ cell) × (new ≡ old)
StoresInCell tok cell value old new done.NotHeld = HasCell old tok cell × IsUnheld old tok × (new ≡ old)
StoresInCell tok cell value old new done.SharedWrite = HasCell old tok cell × IsShared old tok × (new ≡ old)
StoresInCell tok cell value old new done.TallyOnly = HasCell old tok cell × IsMine old tok × ((plan_of (bank_of old) tok).law ≡ Tally) × IsUnchanged old new

abbrev pub AddsToCell : ℕ → ℕ → CpuSeat → CpuSeat → Added → Type 0
AddsToCell tok amount old new (added.Sum sum) = IsThere old tok × IsMine old tok × ((plan_of (bank_of old) tok).law ≡ Tally) × (sum ≡ slice_index (entry old tok).row 0 + amount)
    × Knowing old new tok (raised (entry old tok) old.cpu amount) (first_load old.cpu tok (entry old tok) 0 ++ writes old.cpu tok 0 sum ∷ [])
AddsToCell tok amount old new added.NoToken = IsMissing old tok × (new ≡ old)
AddsToCell tok amount old new added.NotHeld = IsThere old tok × IsUnheld old tok × (new ≡ old)
AddsToCell tok amount old new added.SharedWrite = IsThere old tok × IsShared old tok × (new ≡ old)
AddsToCell tok amount old new added.TallyOnly = IsThere old tok × IsMine old tok × ((plan_of (bank_of old) tok).law ≢ Tally) × IsUnchanged old new
AddsToCell tok amount old new added.Overflow = IsThere old tok × IsMine old tok × ((plan_of (bank_of old) tok).law ≡ Tally) × (2 ^ 64 ≤ slice_index (entry old tok).row 0 + amount)
    × Knowing old new tok (entry old tok) (first_load old.cpu tok (entry old tok) 0)

abbrev pub JudgesToken : ℕ → CpuSeat → CpuSeat → Judged → Type 0
JudgesToken tok old new judged.Lawful = IsThere old tok × IsMine old tok × ObeysItsLaw old tok × Asked_for old new tok
JudgesToken tok old new judged.Broken = IsThere old tok × IsMine old tok × (¬ ObeysItsLaw old tok) × Asked_for old new tok
JudgesToken tok old new judged.NoToken = IsMissing old tok × (new ≡ old)
JudgesToken tok old new judged.NotHeld = IsThere old tok × IsUnheld old tok × (new ≡ old)
JudgesToken tok old new judged.SharedWrite = IsThere old tok × IsShared old tok × (new ≡ old)

-- the first row is stored again, and the first record: each cell that was stored to gets its first value; a Tally token stays as it is
abbrev pub RestoresRow : ℕ → CpuSeat → CpuSeat → Type 0
RestoresRow tok old new =
    ((plan_of (bank_of old) tok).law ≢ Tally → (made : List (Option ℕ)) × ((bytes : RecordOf) × Restored old new tok made bytes))
    × ((plan_of (bank_of old) tok).law ≡ Tally → IsUnchanged old new)

abbrev pub Restores : ℕ → CpuSeat → CpuSeat → RowRestored → Type 0
Restores tok old new restored.Restored = IsThere old tok × IsMine old tok × RestoresRow tok old new
Restores tok old new restored.NoToken = IsMissing old tok × (new ≡ old)
Restores tok old new restored.NotHeld = IsThere old tok × IsUnheld old tok × (new ≡ old)
Restores tok old new restored.SharedWrite = IsThere old tok × IsShared old tok × (new ≡ old)
