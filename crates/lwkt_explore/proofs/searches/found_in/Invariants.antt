use Rattle.std.proofs.Common.{◌≡◌, ◌≤◌}
use Rattle.lwkt_explore.proofs.searches.found_in.Given as goal

abbrev pub decreases-loop-task : goal.decreases-loop-task
decreases-loop-task g l = l.task.bound

abbrev pub invariant-loop-task : goal.invariant-loop-task
invariant-loop-task g l = record {
  machine : l.task.machine ≡ l.fn.task.machine;
  cpus : l.task.cpus ≡ l.fn.task.cpus;
  turns : l.task.turns ≡ l.fn.task.turns;
  fewer : l.task.bound ≤ l.fn.task.bound;
}
