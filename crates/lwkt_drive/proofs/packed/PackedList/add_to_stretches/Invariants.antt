use Rattle.std.proofs.Common.{List, ◌++◌, take}
use Rattle.lwkt_base.specs.declared.sections.Section.{Section}
use Rattle.lwkt_core.specs.RunSections.{sections_named}
use Rattle.lwkt_drive.specs.ShortEvents.{events_in}
use Rattle.lwkt_drive.specs.Stretches.{StandFor}
use Rattle.lwkt_drive.proofs.packed.PackedList.add_to_stretches.Given as goal

abbrev pub invariant-loop-row : goal.invariant-loop-row
invariant-loop-row l = (sections : List Section) → StandFor l.initial.stretches sections → StandFor l.stretches (sections ++ sections_named (events_in l.self-inside.cells.items l.self-inside.wides.items l.self-inside.longs.items (take l.row-index l.row-items)))
