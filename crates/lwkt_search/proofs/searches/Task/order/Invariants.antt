use Rattle.std.proofs.Common.{◌≡◌, ◌+◌, ◌<◌, length, reverse}
use Rattle.lwkt_search.specs.Runs.{run, IsOrder}
use Rattle.lwkt_search.specs.Graphs.{node_at, nodes_of}
use Rattle.lwkt_search.proofs.searches.Task.order.Given as goal

abbrev pub invariant-loop-number : goal.invariant-loop-number
invariant-loop-number g l = record {
  there : l.number < length l.growth.links;
  leads : run (g.M.Machine.turn_of l.self.machine) (node_at (g.M.Machine.start_of l.self.machine) (nodes_of (g.M.Machine.kept l.growth.store) l.growth.links) l.number).state (reverse l.order.items) ≡ (node_at (g.M.Machine.start_of l.self.machine) (nodes_of (g.M.Machine.kept l.growth.store) l.growth.links) l.at).state;
  order : IsOrder l.self.cpus (reverse l.order.items);
  long : length l.order.items + (node_at (g.M.Machine.start_of l.self.machine) (nodes_of (g.M.Machine.kept l.growth.store) l.growth.links) l.number).depth ≡ (node_at (g.M.Machine.start_of l.self.machine) (nodes_of (g.M.Machine.kept l.growth.store) l.growth.links) l.at).depth;
}

abbrev pub decreases-loop-number : goal.decreases-loop-number
decreases-loop-number g l = l.number
