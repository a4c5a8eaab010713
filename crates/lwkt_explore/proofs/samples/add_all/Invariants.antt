use Rattle.std.proofs.Common.{◌≤◌, sum}
use Rattle.lwkt_explore.specs.Outcomes.{AreOnce, AreOutcomes, AreShort}
use Rattle.lwkt_explore.proofs.samples.add_all.Given as goal

abbrev pub invariant-loop-made : goal.invariant-loop-made
invariant-loop-made g l = record {
  found : AreOutcomes l.script l.outcomes;
  short : AreShort l.most l.outcomes;
  once : AreOnce l.fn.outcomes → AreOnce l.outcomes;
  counts : sum l.outcomes.counts.items ≤ l.made;
}
