use Rattle.std.proofs.Common.{◌≡◌, ◌<◌, ◌≤◌, length}
use Rattle.lwkt_search.specs.Graphs.{nodes_of, IsWithin, GrowsFrom}
use Rattle.lwkt_search.proofs.searches.Task.go_on_by.Given as goal

abbrev pub invariant-loop-set : goal.invariant-loop-set
invariant-loop-set g l = record {
  sound : g.M.Machine.is_sound l.self.machine l.store;
  long : length l.links ≡ length (g.M.Machine.kept l.store);
  within : IsWithin (g.M.Machine.turn_of l.self.machine) (g.M.Machine.start_of l.self.machine) l.self.cpus (nodes_of (g.M.Machine.kept l.store) l.links) l.row.items l.at;
  there : l.at < length l.links;
  grows : GrowsFrom (g.M.Machine.start_of l.self.machine) l.at (nodes_of (g.M.Machine.kept l.fn.store) l.fn.links) (nodes_of (g.M.Machine.kept l.store) l.links);
  few : length l.fn.links ≤ l.self.bound → length l.links ≤ l.self.bound;
}
