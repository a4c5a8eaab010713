use Rattle.lwkt_explore.specs.Outcomes.{AreOnce, AreOutcomes, AreShort}
use Rattle.lwkt_explore.proofs.searches.tell_cut.Given as goal

abbrev pub invariant-loop-at : goal.invariant-loop-at
invariant-loop-at g l = record {
  found : AreOutcomes l.script l.outcomes;
  short : AreShort l.task.turns l.outcomes;
  once : AreOnce l.fn.outcomes → AreOnce l.outcomes;
}
