use Rattle.std.proofs.Common.{List, ◌++◌, take}
use Rattle.lwkt_base.specs.declared.sections.Section.{Section}
use Rattle.lwkt_core.specs.RunSections.{sections_named}
use Rattle.lwkt_drive.specs.Stretches.{StandFor}
use Rattle.lwkt_drive.proofs.stretches.Stretches.add_named.Given as goal

abbrev pub invariant-loop-event : goal.invariant-loop-event
invariant-loop-event l = (sections : List Section) → StandFor l.initial.self sections → StandFor l.self (sections ++ sections_named (take l.event-index l.events))
