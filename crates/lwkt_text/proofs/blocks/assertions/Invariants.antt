use Rattle.std.proofs.Common.{◌≡◌, ◌+◌, ◌≤◌, count_by, drop}
use Rattle.lwkt_text.specs.Blocks.{is_assertion}
use Rattle.lwkt_text.proofs.blocks.assertions.Given as goal

abbrev pub invariant-loop-step : goal.invariant-loop-step
invariant-loop-step l = (l.count ≤ l.step-index) × (l.count + count_by is_assertion (drop l.step-index l.steps) ≡ count_by is_assertion l.steps)
