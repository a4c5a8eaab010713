use Rattle.std.proofs.Common.{ℕ, ◌<◌, All, slice_index_or}
use Rattle.lwkt_search.specs.declared.searches.Outcome.{Outcome}
use Rattle.lwkt_explore.specs.Outcomes.{AreOnce, AreOutcomes, AreShort, AreWhole, HasReport}
use Rattle.lwkt_explore.specs.Searches.{AreShortest, IsShortestOrder, StuckAt}
use Rattle.lwkt_plain.specs.Deadlocks.{IsStandstill}
use Rattle.lwkt_explore.proofs.searches.tell.Given as goal

abbrev pub invariant-loop-at : goal.invariant-loop-at
invariant-loop-at g l = record {
  found : AreOutcomes l.script l.outcomes;
  short : AreShort l.turns l.outcomes;
  whole : AreWhole l.outcomes;
  once : AreOnce l.fn.outcomes → AreOnce l.outcomes;
  shortest : All (λ one. IsShortestOrder l.script one.order.items) l.told → AreShortest l.script l.fn.outcomes → AreShortest l.script l.outcomes;
  stuck : StuckAt (IsStandstill l.script) l.script l.fn.outcomes → StuckAt (IsStandstill l.script) l.script l.outcomes;
  told : (i : ℕ) (d : Outcome) → i < l.at → HasReport l.script (slice_index_or l.told i d).order.items l.outcomes;
}
