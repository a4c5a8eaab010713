-- What a call for C does to a seat, by the number that it answers (own).
use Rattle.std.specs.Prelude.{◌≡◌, ◌≢◌, ◌⊎◌, ℕ, List, length, take, Option, None, Some}
use Rattle.lwkt_base.specs.declared.names.Mode.{Mode}
use Rattle.lwkt_base.specs.declared.names.Mode.TheVariants.{Exclusive}
use Rattle.lwkt_bank.specs.declared.seats.CpuSeat.{CpuSeat}
use Rattle.lwkt_seats.specs.declared.answers.Asked.{Asked}
use Rattle.lwkt_seats.specs.declared.answers.Furthered.{Furthered}
use Rattle.lwkt_seats.specs.declared.answers.Marked.{Marked}
use Rattle.lwkt_seats.specs.declared.answers.GaveBack.{GaveBack}
use Rattle.lwkt_seats.specs.declared.answers.Loaded.{Loaded}
use Rattle.lwkt_seats.specs.declared.answers.Loaded.TheVariants as loaded
use Rattle.lwkt_seats.specs.declared.answers.Stored.{Stored}
use Rattle.lwkt_seats.specs.declared.answers.Added.{Added}
use Rattle.lwkt_seats.specs.declared.answers.Added.TheVariants as added
use Rattle.lwkt_seats.specs.declared.answers.Judged.{Judged}
use Rattle.lwkt_seats.specs.declared.answers.RowRestored.{RowRestored}
use Rattle.lwkt_seats.specs.declared.answers.RecordRead.{RecordRead}
use Rattle.lwkt_seats.specs.declared.answers.RecordRead.TheVariants as read
use Rattle.lwkt_seats.specs.declared.answers.RecordWritten.{RecordWritten}
use Rattle.lwkt_seats.specs.Numbers.{asked_number, furthered_number, marked_number, gave_number, loaded_number, stored_number, added_number, judged_number, restored_number, record_read_number, record_written_number}
use Rattle.lwkt_seats.specs.Asks.{AsksFor, Furthers, MarksToken, GivesToken}
use Rattle.lwkt_seats.specs.Cells.{HasCell, Loads, StoresInCell, AddsToCell, JudgesToken, Restores}
use Rattle.lwkt_seats.specs.Records.{ReadsBytes, WritesBytes, buffer_with_bytes}
use Rattle.lwkt_base.specs.declared.names.TokId.{TokId}
use Rattle.lwkt_base.specs.declared.limits.TheConstants.{RECORD_LIMIT}
use Rattle.lwkt_seats.specs.declared.references.LwktReference.{LwktReference}
use Rattle.lwkt_seats.specs.declared.list_answers.Resumed.{Resumed}
use Rattle.lwkt_seats.specs.declared.list_answers.Resumed.TheVariants as resumed
use Rattle.lwkt_seats.specs.Lists.{ResumesSeat, BlocksSeat}
use Rattle.lwkt_seats.specs.ListNumbers.{resumed_number, blocked_number}

-- the value that is stored for the caller: with no value it stays as it was
abbrev pub PutsLoaded : Loaded → ℕ → ℕ → Type 0
PutsLoaded (loaded.Value value) before now = now ≡ value
PutsLoaded loaded.NoToken before now = now ≡ before
PutsLoaded loaded.NoCell before now = now ≡ before
PutsLoaded loaded.NotHeld before now = now ≡ before

abbrev pub PutsAdded : Added → ℕ → ℕ → Type 0
PutsAdded (added.Sum sum) before now = now ≡ sum
PutsAdded added.NoToken before now = now ≡ before
PutsAdded added.NotHeld before now = now ≡ before
PutsAdded added.SharedWrite before now = now ≡ before
PutsAdded added.TallyOnly before now = now ≡ before
PutsAdded added.Overflow before now = now ≡ before

-- what is stored for the caller of a record: its bytes, of which there are at most 64, as far as there is room, and their number; with
-- no record all stays as it was
abbrev pub PutsRecord : RecordRead → List ℕ → List ℕ → ℕ → ℕ → Type 0
PutsRecord (read.Bytes bytes) before now before_length now_length = (now ≡ buffer_with_bytes before (take RECORD_LIMIT bytes)) × (now_length ≡ length bytes)
PutsRecord read.NoToken before now before_length now_length = (now ≡ before) × (now_length ≡ before_length)
PutsRecord read.NoRecord before now before_length now_length = (now ≡ before) × (now_length ≡ before_length)
PutsRecord read.NotHeld before now before_length now_length = (now ≡ before) × (now_length ≡ before_length)
PutsRecord read.SharedRecord before now before_length now_length = (now ≡ before) × (now_length ≡ before_length)

-- the place that is stored for the caller of a list, and the token: with none it stays as it was
abbrev pub PutsPlace : Resumed → ℕ → ℕ → Type 0
PutsPlace resumed.All before now = now ≡ before
PutsPlace resumed.Holds before now = now ≡ before
PutsPlace (resumed.Unlisted at why) before now = now ≡ at
PutsPlace (resumed.Missed at why) before now = now ≡ at

abbrev pub PutsFirst : Option TokId → ℕ → ℕ → Type 0
PutsFirst None before now = now ≡ before
PutsFirst (Some tok) before now = now ≡ tok.0

abbrev pub TakesAt : Mode → ℕ → CpuSeat → CpuSeat → ℕ → Type 0
TakesAt mode tok old new answer = (asked : Asked) × ((answer ≡ asked_number asked) × AsksFor mode tok old new asked)

abbrev pub GainsOne : ℕ → CpuSeat → CpuSeat → ℕ → Type 0
GainsOne tok old new answer = (furthered : Furthered) × ((answer ≡ furthered_number furthered) × Furthers tok old new furthered)

abbrev pub SetsMark : ℕ → CpuSeat → CpuSeat → ℕ → Type 0
SetsMark tok old new answer = (marked : Marked) × ((answer ≡ marked_number marked) × MarksToken tok old new marked)

abbrev pub GivesOneBack : ℕ → CpuSeat → CpuSeat → ℕ → Type 0
GivesOneBack tok old new answer = (gave : GaveBack) × ((answer ≡ gave_number gave) × GivesToken tok old new gave)

abbrev pub LoadsCell : ℕ → ℕ → ℕ → ℕ → CpuSeat → CpuSeat → ℕ → Type 0
LoadsCell tok cell before now old new answer = (loaded : Loaded) × ((answer ≡ loaded_number loaded) × Loads tok cell old new loaded × PutsLoaded loaded before now)

abbrev pub StoresValue : ℕ → ℕ → ℕ → CpuSeat → CpuSeat → ℕ → Type 0
StoresValue tok cell value old new answer = (stored : Stored) × ((answer ≡ stored_number stored) × StoresInCell tok cell value old new stored)

-- an exclusive reference, and the value of a cell: there is no such token or cell; or the reference is asked for, and if it is there the
-- cell is loaded
abbrev pub TakesAndLoads : ℕ → ℕ → ℕ → ℕ → CpuSeat → CpuSeat → ℕ → Type 0
TakesAndLoads tok cell before now old new answer =
    (((answer ≡ 16) ⊎ (answer ≡ 17)) × LoadsCell tok cell before now old new answer)
    ⊎ (HasCell old tok cell × ((mid : CpuSeat) × (TakesAt Exclusive tok old mid answer × (answer ≡ 0 → LoadsCell tok cell before now mid new 0) × (answer ≢ 0 → (new ≡ mid) × (now ≡ before)))))

-- a value stored, and if it is, a reference given back
abbrev pub StoresAndGives : ℕ → ℕ → ℕ → CpuSeat → CpuSeat → ℕ → Type 0
StoresAndGives tok cell value old new answer =
    (mid : CpuSeat) × ((stored : ℕ) × (StoresValue tok cell value old mid stored × (stored ≡ 0 → GivesOneBack tok mid new answer) × (stored ≢ 0 → (new ≡ mid) × (answer ≡ stored))))

abbrev pub AddsTo : ℕ → ℕ → ℕ → ℕ → CpuSeat → CpuSeat → ℕ → Type 0
AddsTo tok amount before now old new answer = (added : Added) × ((answer ≡ added_number added) × AddsToCell tok amount old new added × PutsAdded added before now)

abbrev pub JudgesRow : ℕ → CpuSeat → CpuSeat → ℕ → Type 0
JudgesRow tok old new answer = (judged : Judged) × ((answer ≡ judged_number judged) × JudgesToken tok old new judged)

abbrev pub RestoresFirst : ℕ → CpuSeat → CpuSeat → ℕ → Type 0
RestoresFirst tok old new answer = (restored : RowRestored) × ((answer ≡ restored_number restored) × Restores tok old new restored)

abbrev pub ReadsTheRecord : ℕ → List ℕ → List ℕ → ℕ → ℕ → CpuSeat → CpuSeat → ℕ → Type 0
ReadsTheRecord tok before now before_length now_length old new answer = (read : RecordRead) × ((answer ≡ record_read_number read) × ReadsBytes tok old new read × PutsRecord read before now before_length now_length)

abbrev pub WritesRecord : ℕ → List ℕ → CpuSeat → CpuSeat → ℕ → Type 0
WritesRecord tok bytes old new answer = (written : RecordWritten) × ((answer ≡ record_written_number written) × WritesBytes tok bytes old new written)

abbrev pub ResumesList : List LwktReference → ℕ → ℕ → CpuSeat → CpuSeat → ℕ → Type 0
ResumesList refs before now old new answer = (came : Resumed) × ((answer ≡ resumed_number came) × ResumesSeat refs old new came × PutsPlace came before now)

abbrev pub GivesUpAll : ℕ → ℕ → CpuSeat → CpuSeat → ℕ → Type 0
GivesUpAll before now old new answer = (first : Option TokId) × ((answer ≡ blocked_number first) × BlocksSeat old new first × PutsFirst first before now)
