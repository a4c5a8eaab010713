use Rattle.std.proofs.Common.{ℕ, ◌≤◌, length}
use Rattle.std.specs.Prelude.{All}
use Rattle.std.specs.Vec.Iter.{into_iter_items}
use Rattle.lwkt_script.specs.declared.scripts.Script.{Script}
use Rattle.lwkt_explore.specs.Outcomes.{IsOutcome, AreOnce, AreOutcomes, AreShort}
use Rattle.lwkt_explore.proofs.outcomes.Outcomes.take_in.Given as goal

abbrev pub invariant-loop-outcome : goal.invariant-loop-outcome
invariant-loop-outcome l = record {
  found : (script : Script) → AreOutcomes script l.fn.self → AreOutcomes script l.fn.others → AreOutcomes script l.self;
  once : AreOnce l.fn.self → AreOnce l.self;
  rest : (script : Script) → AreOutcomes script l.fn.others → All (IsOutcome script) (into_iter_items l.outcome-iterator);
  short : (turns : ℕ) → AreShort turns l.fn.self → AreShort turns l.fn.others → AreShort turns l.self;
  few : (turns : ℕ) → AreShort turns l.fn.others → All (λ outcome. length outcome.order.items ≤ turns) (into_iter_items l.outcome-iterator);
}
