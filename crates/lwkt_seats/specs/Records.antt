-- What calls on the record of a token do, by their answer.
use Rattle.std.specs.Prelude.{◌≡◌, ℕ, ◌<◌, ◌≤◌, true, false, List, [], ◌∷◌, ◌++◌, length, take, drop, Some, is_some}
use Rattle.lwkt_base.specs.declared.limits.TheConstants.{RECORD_LIMIT}
use Rattle.lwkt_bank.specs.declared.seats.CpuSeat.{CpuSeat}
use Rattle.lwkt_bank.specs.Views.{wrote_record}
use Rattle.lwkt_bank.specs.Deeds.{reads_blob, writes_blob}
use Rattle.lwkt_bank.specs.Seats.{bank_of, plan_of, entry, Changes}
use Rattle.lwkt_seats.specs.Asks.{IsThere, IsMissing}
use Rattle.lwkt_seats.specs.Cells.{IsUnheld, IsShared, IsMine}
use Rattle.lwkt_seats.specs.declared.answers.RecordRead.{RecordRead}
use Rattle.lwkt_seats.specs.declared.answers.RecordRead.TheVariants as read
use Rattle.lwkt_seats.specs.declared.answers.RecordWritten.{RecordWritten}
use Rattle.lwkt_seats.specs.declared.answers.RecordWritten.TheVariants as wrote

-- the token guards a record, and it doesn't
abbrev pub GuardsRecord : CpuSeat → ℕ → Type 0
GuardsRecord s tok = IsThere s tok × (is_some (plan_of (bank_of s) tok).blob ≡ true)

abbrev pub IsBare : CpuSeat → ℕ → Type 0
IsBare s tok = IsThere s tok × (is_some (plan_of (bank_of s) tok).blob ≡ false)

abbrev pub ReadsBytes : ℕ → CpuSeat → CpuSeat → RecordRead → Type 0
ReadsBytes tok old new (read.Bytes bytes) = GuardsRecord old tok × IsMine old tok × ((entry old tok).blob ≡ Some bytes)
    × Changes old new tok (entry old tok) (reads_blob old.cpu tok bytes ∷ [])
ReadsBytes tok old new read.NoToken = IsMissing old tok × (new ≡ old)
ReadsBytes tok old new read.NoRecord = IsBare old tok × (new ≡ old)
ReadsBytes tok old new read.NotHeld = GuardsRecord old tok × IsUnheld old tok × (new ≡ old)
ReadsBytes tok old new read.SharedRecord = GuardsRecord old tok × IsShared old tok × (new ≡ old)

abbrev pub WritesBytes : ℕ → List ℕ → CpuSeat → CpuSeat → RecordWritten → Type 0
WritesBytes tok bytes old new wrote.Written = GuardsRecord old tok × IsMine old tok × (length bytes ≤ RECORD_LIMIT)
    × Changes old new tok (wrote_record (entry old tok) bytes) (writes_blob old.cpu tok bytes ∷ [])
WritesBytes tok bytes old new wrote.NoToken = IsMissing old tok × (new ≡ old)
WritesBytes tok bytes old new wrote.NoRecord = IsBare old tok × (new ≡ old)
WritesBytes tok bytes old new wrote.NotHeld = GuardsRecord old tok × IsUnheld old tok × (new ≡ old)
WritesBytes tok bytes old new wrote.SharedRecord = GuardsRecord old tok × IsShared old tok × (new ≡ old)
WritesBytes tok bytes old new wrote.RecordLong = GuardsRecord old tok × IsMine old tok × (RECORD_LIMIT < length bytes) × (new ≡ old)

-- a buffer after bytes were put into it: all of them, or as much of their front as there is room for, and what stood behind that
abbrev pub buffer_with_bytes : List ℕ → List ℕ → List ℕ
buffer_with_bytes buffer whole = take (length buffer) whole ++ drop (length whole) buffer
