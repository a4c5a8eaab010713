use Rattle.std.proofs.Common.{flat_map, take}
use Rattle.lwkt_core.specs.RunSections.{sections_named}
use Rattle.lwkt_drive.specs.Stretches.{StandFor}
use Rattle.lwkt_run.proofs.stretches.stretches_of_traces.Given as goal

abbrev pub invariant-loop-at : goal.invariant-loop-at
invariant-loop-at g l = StandFor l.all.items (flat_map (λ trace. sections_named trace.items) (take l.at l.traces))
