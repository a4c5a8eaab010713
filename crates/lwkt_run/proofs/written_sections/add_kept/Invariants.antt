use Rattle.std.proofs.Common.{◌≡◌, ◌++◌, take}
use Rattle.lwkt_core.specs.RunSections.{sections_named}
use Rattle.lwkt_run.proofs.written_sections.add_kept.Given as goal

abbrev pub invariant-loop-place : goal.invariant-loop-place
invariant-loop-place l = l.sections.items ≡ l.initial.sections.items ++ sections_named (take l.place l.trace.items)
