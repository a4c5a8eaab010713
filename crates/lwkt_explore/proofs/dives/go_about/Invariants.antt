use Rattle.std.proofs.Common.{◌≤◌}
use Rattle.lwkt_explore.specs.Outcomes.{AreOutcomes, AreShort}
use Rattle.lwkt_explore.proofs.dives.go_about.Given as goal

abbrev pub invariant-loop-made : goal.invariant-loop-made
invariant-loop-made g l = record {
  found : AreOutcomes l.script l.outcomes;
  short : AreShort l.bounds.turns l.outcomes;
  left : l.left ≤ 40000;
}
