use Rattle.std.proofs.Common.{◌≡◌, ◌<◌, ℕ, false, IsTrue}
use Rattle.lwkt_search.specs.Graphs.{nodes_of}
use Rattle.lwkt_search.specs.Losses.{IsAgain, IsNext}
use Rattle.lwkt_search.proofs.losses.furthest_by.Given as goal

abbrev pub invariant-loop-cpu : goal.invariant-loop-cpu
invariant-loop-cpu g l = record {
  end : l.cpu-end ≡ l.task.cpus;
  sound : g.M.Machine.is_sound l.task.machine l.store;
  again : IsAgain (nodes_of (g.M.Machine.kept l.fn.store) l.links) l.links l.is_whole (g.M.Machine.kept l.store);
  none : IsTrue l.is_whole → (cpu : ℕ) → cpu < l.cpu → IsNext (g.M.Machine.turn_of l.task.machine) (g.M.Machine.start_of l.task.machine) (nodes_of (g.M.Machine.kept l.fn.store) l.links) l.reaches l.at cpu false;
}
