use Rattle.std.proofs.Common.{◌≡◌, flat_map}
use Rattle.lwkt_core.specs.RunSections.{sections_named}
use Rattle.lwkt_run.proofs.written_sections.gathered.Given as goal

abbrev pub invariant-loop-trace : goal.invariant-loop-trace
invariant-loop-trace l = l.sections.items ≡ flat_map (λ trace. sections_named trace.items) l.yielded
