use Rattle.std.proofs.Common.{◌≡◌, drop, slice_get}
use Rattle.lwkt_told.specs.Labels.{logged_steps}
use Rattle.lwkt_told.proofs.labels.logged_step.Given as goal

abbrev pub invariant-loop-step : goal.invariant-loop-step
invariant-loop-step l = slice_get (logged_steps (drop l.step-index l.program)) l.left ≡ slice_get (logged_steps l.program) l.n
