use Rattle.std.proofs.Common.{◌≡◌}
use Rattle.lwkt_explore.specs.Outcomes.{AreOnce, AreOutcomes, AreShort}
use Rattle.lwkt_explore.proofs.searches.stands_everywhere.Given as goal

abbrev pub invariant-loop-at : goal.invariant-loop-at
invariant-loop-at g l = l.outcomes ≡ l.fn.outcomes
