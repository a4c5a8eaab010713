use Rattle.std.proofs.Common.{◌≡◌, ◌++◌, drop}
use Rattle.lwkt_code.proofs.copies.copy_steps.Given as goal

abbrev pub invariant-loop-step : goal.invariant-loop-step
invariant-loop-step l = l.copies.items ++ drop l.step-index l.steps ≡ l.steps
