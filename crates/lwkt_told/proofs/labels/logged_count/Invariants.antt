use Rattle.std.proofs.Common.{◌≡◌, ◌+◌, ◌≤◌, count_by, drop}
use Rattle.lwkt_told.specs.Labels.{is_step_logged}
use Rattle.lwkt_told.proofs.labels.logged_count.Given as goal

abbrev pub invariant-loop-step : goal.invariant-loop-step
invariant-loop-step l = (l.count ≤ l.step-index) × (l.count + count_by is_step_logged (drop l.step-index l.program) ≡ count_by is_step_logged l.program)
