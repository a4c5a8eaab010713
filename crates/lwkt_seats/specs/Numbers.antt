-- The numbers of answers, as the library for C gives them: 0, or that of the fault (docs/FORMATS.md).
use Rattle.std.specs.Prelude.{ℕ}
use Rattle.lwkt_seats.specs.declared.answers.Asked.{Asked}
use Rattle.lwkt_seats.specs.declared.answers.Asked.TheVariants as asked
use Rattle.lwkt_seats.specs.declared.answers.Furthered.{Furthered}
use Rattle.lwkt_seats.specs.declared.answers.Furthered.TheVariants as furthered
use Rattle.lwkt_seats.specs.declared.answers.Marked.{Marked}
use Rattle.lwkt_seats.specs.declared.answers.Marked.TheVariants as marked
use Rattle.lwkt_seats.specs.declared.answers.GaveBack.{GaveBack}
use Rattle.lwkt_seats.specs.declared.answers.GaveBack.TheVariants as gave
use Rattle.lwkt_seats.specs.declared.answers.Loaded.{Loaded}
use Rattle.lwkt_seats.specs.declared.answers.Loaded.TheVariants as loaded
use Rattle.lwkt_seats.specs.declared.answers.Stored.{Stored}
use Rattle.lwkt_seats.specs.declared.answers.Stored.TheVariants as stored
use Rattle.lwkt_seats.specs.declared.answers.Added.{Added}
use Rattle.lwkt_seats.specs.declared.answers.Added.TheVariants as added
use Rattle.lwkt_seats.specs.declared.answers.Judged.{Judged}
use Rattle.lwkt_seats.specs.declared.answers.Judged.TheVariants as judged
use Rattle.lwkt_seats.specs.declared.answers.RowRestored.{RowRestored}
use Rattle.lwkt_seats.specs.declared.answers.RowRestored.TheVariants as restored
use Rattle.lwkt_seats.specs.declared.answers.RecordRead.{RecordRead}
use Rattle.lwkt_seats.specs.declared.answers.RecordRead.TheVariants as record_read
use Rattle.lwkt_seats.specs.declared.answers.RecordWritten.{RecordWritten}
use Rattle.lwkt_seats.specs.declared.answers.RecordWritten.TheVariants as record_written

abbrev pub asked_number : Asked → ℕ
asked_number asked.Taken = 0
asked_number asked.Further = 0
asked_number asked.NoToken = 16
asked_number asked.ListFull = 10
asked_number asked.Upgrade = 11
asked_number asked.Busy = 23
asked_number asked.Again = 34
asked_number asked.Worn = 20

abbrev pub furthered_number : Furthered → ℕ
furthered_number furthered.Further = 0
furthered_number furthered.NoToken = 16
furthered_number furthered.NotHeld = 13
furthered_number furthered.ListFull = 10

abbrev pub marked_number : Marked → ℕ
marked_number marked.Set = 0
marked_number marked.NoToken = 16

abbrev pub gave_number : GaveBack → ℕ
gave_number gave.Given = 0
gave_number gave.NoToken = 16
gave_number gave.NotHeld = 13
gave_number gave.Broken = 19

abbrev pub loaded_number : Loaded → ℕ
loaded_number (loaded.Value value) = 0
loaded_number loaded.NoToken = 16
loaded_number loaded.NoCell = 17
loaded_number loaded.NotHeld = 13

abbrev pub stored_number : Stored → ℕ
stored_number stored.Stored = 0
stored_number stored.NoToken = 16
stored_number stored.NoCell = 17
stored_number stored.NotHeld = 13
stored_number stored.SharedWrite = 18
stored_number stored.TallyOnly = 22

abbrev pub added_number : Added → ℕ
added_number (added.Sum sum) = 0
added_number added.NoToken = 16
added_number added.NotHeld = 13
added_number added.SharedWrite = 18
added_number added.TallyOnly = 22
added_number added.Overflow = 21

abbrev pub judged_number : Judged → ℕ
judged_number judged.Lawful = 0
judged_number judged.Broken = 19
judged_number judged.NoToken = 16
judged_number judged.NotHeld = 13
judged_number judged.SharedWrite = 18

abbrev pub restored_number : RowRestored → ℕ
restored_number restored.Restored = 0
restored_number restored.NoToken = 16
restored_number restored.NotHeld = 13
restored_number restored.SharedWrite = 18

abbrev pub record_read_number : RecordRead → ℕ
record_read_number (record_read.Bytes bytes) = 0
record_read_number record_read.NoToken = 16
record_read_number record_read.NoRecord = 17
record_read_number record_read.NotHeld = 13
record_read_number record_read.SharedRecord = 37

abbrev pub record_written_number : RecordWritten → ℕ
record_written_number record_written.Written = 0
record_written_number record_written.NoToken = 16
record_written_number record_written.NoRecord = 17
record_written_number record_written.NotHeld = 13
record_written_number record_written.SharedRecord = 37
record_written_number record_written.RecordLong = 38
