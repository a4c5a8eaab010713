use Rattle.std.specs.Prelude.{ℕ, suc, List, [], ◌∷◌, Option, Some, None}
use Rattle.lwkt_base.specs.declared.names.CpuId.{CpuId}
use Rattle.lwkt_base.specs.declared.names.TokId.{TokId}
use Rattle.lwkt_base.specs.declared.names.Mode.{Mode}
use Rattle.lwkt_base.specs.declared.sections.Section.{Section}
use Rattle.lwkt_base.specs.declared.names.Mode.TheVariants.{Exclusive, Shared}
use Rattle.lwkt_core.specs.declared.events.Event.{Event}
use Rattle.lwkt_core.specs.declared.events.Event.TheVariants.{Load, Take, Share, Again, Mark, GiveOne, GiveClean, GiveWritten, Read, Write, ReadBlob, WriteBlob}
use Rattle.lwkt_table.specs.declared.seats.WordStep.{WordStep}
use Rattle.lwkt_table.specs.declared.seats.Deed.{Deed}
use Rattle.lwkt_bank.specs.Views.{RecordOf, one_section, named, load, exchange, add, sub, or}

-- one atomic step of a processor at the bank: its event, and its step on the word of a token if it is one
abbrev pub deed_by : CpuId → Event → List WordStep → Deed
deed_by cpu event steps = record { cpu = cpu; events = event ∷ []; steps = steps; records = [] }

-- the event of taking a token in a mode
abbrev pub take_event : CpuId → TokId → Mode → Event
take_event cpu tok Exclusive = Take cpu tok
take_event cpu tok Shared = Share cpu tok

-- the deed of each kind of step on the word of a token, which found this word: a load; an exchange that took the token, and one
-- that found another word; a further reference; a mark; and the three ways of giving a reference back
abbrev pub loads : CpuId → ℕ → ℕ → Deed
loads cpu tok found = deed_by cpu (Load cpu (named tok)) (load tok found ∷ [])

abbrev pub takes : CpuId → ℕ → Mode → ℕ → ℕ → ℕ → Deed
takes cpu tok mode old new found = deed_by cpu (take_event cpu (named tok) mode) (exchange tok old new found ∷ [])

abbrev pub loses : CpuId → ℕ → ℕ → ℕ → ℕ → Deed
loses cpu tok old new found = deed_by cpu (Load cpu (named tok)) (exchange tok old new found ∷ [])

abbrev pub adds_one : CpuId → ℕ → ℕ → Deed
adds_one cpu tok found = deed_by cpu (Again cpu (named tok)) (add tok 4 found ∷ [])

abbrev pub marks : CpuId → ℕ → ℕ → Deed
marks cpu tok found = deed_by cpu (Mark cpu (named tok)) (or tok 2 found ∷ [])

abbrev pub gives_one : CpuId → ℕ → ℕ → Deed
gives_one cpu tok found = deed_by cpu (GiveOne cpu (named tok)) (sub tok 4 found ∷ [])

abbrev pub gives_clean : CpuId → ℕ → ℕ → Deed
gives_clean cpu tok found = deed_by cpu (GiveClean cpu (named tok)) (sub tok 1 found ∷ [])

abbrev pub gives_written : Section → CpuId → ℕ → ℕ → Deed
gives_written section cpu tok found = deed_by cpu (GiveWritten cpu (named tok) section) (add tok one_section found ∷ [])

-- the deed of a step on a cell: a load of this value, and a store of it
abbrev pub reads : CpuId → ℕ → ℕ → ℕ → Deed
reads cpu tok cell value = deed_by cpu (Read cpu (named tok) cell value) []

abbrev pub writes : CpuId → ℕ → ℕ → ℕ → Deed
writes cpu tok cell value = deed_by cpu (Write cpu (named tok) cell value) []

-- the deed of an access to the record of a token that is held exclusively: it is this one, or becomes this one
abbrev pub reads_blob : CpuId → ℕ → List ℕ → Deed
reads_blob cpu tok bytes = deed_by cpu (ReadBlob cpu (named tok) bytes) []

abbrev pub writes_blob : CpuId → ℕ → List ℕ → Deed
writes_blob cpu tok bytes = deed_by cpu (WriteBlob cpu (named tok) bytes) []

-- the deeds of a record that is written, if one is
abbrev pub writes_blob_if : CpuId → ℕ → RecordOf → List Deed
writes_blob_if cpu tok None = []
writes_blob_if cpu tok (Some bytes) = writes_blob cpu tok bytes ∷ []

-- the loads of the cells of a row, and the stores of these values in cells, from a cell on
abbrev pub reads_all : CpuId → ℕ → ℕ → List ℕ → List Deed
reads_all cpu tok cell [] = []
reads_all cpu tok cell (value ∷ row) = reads cpu tok cell value ∷ reads_all cpu tok (suc cell) row

abbrev pub writes_all : CpuId → ℕ → ℕ → List (Option ℕ) → List Deed
writes_all cpu tok cell [] = []
writes_all cpu tok cell (None ∷ values) = writes_all cpu tok (suc cell) values
writes_all cpu tok cell (Some value ∷ values) = writes cpu tok cell value ∷ writes_all cpu tok (suc cell) values
