use Rattle.std.proofs.Common.{◌≡◌, ◌++◌, take}
use Rattle.lwkt_core.specs.RunSections.{sections_named}
use Rattle.lwkt_run.proofs.written_sections.add_named.Given as goal

abbrev pub invariant-loop-event : goal.invariant-loop-event
invariant-loop-event l = l.sections.items ≡ l.initial.sections.items ++ sections_named (take l.event-index l.events)
