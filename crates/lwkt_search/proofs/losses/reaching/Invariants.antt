use Rattle.std.proofs.Common.{◌≡◌, length, sum_by}
use Rattle.lwkt_search.specs.Graphs.{nodes_of}
use Rattle.lwkt_search.specs.Losses.{IsAgain, IsReaching, missing}
use Rattle.lwkt_search.proofs.losses.reaching.Given as goal

abbrev pub invariant-loop-reaches : goal.invariant-loop-reaches
invariant-loop-reaches g l = record {
  sound : g.M.Machine.is_sound l.task.machine l.store;
  again : IsAgain (nodes_of (g.M.Machine.kept l.fn.store) l.links) l.links l.is_whole (g.M.Machine.kept l.store);
  same : length l.reaches.items ≡ length l.links;
  reaching : IsReaching (g.M.Machine.turn_of l.task.machine) (g.M.Machine.ended_of l.task.machine) (g.M.Machine.start_of l.task.machine) l.task.cpus (nodes_of (g.M.Machine.kept l.fn.store) l.links) l.reaches.items;
}

abbrev pub decreases-loop-reaches : goal.decreases-loop-reaches
decreases-loop-reaches g l = sum_by missing l.reaches.items
