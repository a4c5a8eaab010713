use Rattle.std.proofs.Common.{◌≤◌, length}
use Rattle.lwkt_search.specs.Graphs.{nodes_of}
use Rattle.lwkt_search.specs.Losses.{IsAgain}
use Rattle.lwkt_search.proofs.LossLemmas.{IsPassed}
use Rattle.lwkt_search.proofs.losses.go_back.Given as goal

abbrev pub invariant-loop-up : goal.invariant-loop-up
invariant-loop-up g l = record {
  within : l.up ≤ length l.links;
  sound : g.M.Machine.is_sound l.task.machine l.store;
  again : IsAgain (nodes_of (g.M.Machine.kept l.fn.store) l.links) l.links l.is_whole (g.M.Machine.kept l.store);
  passed : IsPassed (g.M.Machine.turn_of l.task.machine) (g.M.Machine.ended_of l.task.machine) (g.M.Machine.start_of l.task.machine) l.task.cpus (nodes_of (g.M.Machine.kept l.fn.store) l.links) l.is_whole l.fn.reaches l.reaches l.is_new l.up;
}

abbrev pub decreases-loop-up : goal.decreases-loop-up
decreases-loop-up g l = l.up
