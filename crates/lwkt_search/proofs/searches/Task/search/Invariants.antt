use Rattle.std.proofs.Common.{◌≡◌, ◌<◌, ◌≤◌, length, All}
use Rattle.lwkt_search.specs.Runs.{all_told, IsOrder}
use Rattle.lwkt_search.specs.Graphs.{nodes_of, IsCollected}
use Rattle.lwkt_search.proofs.searches.Task.search.Given as goal

abbrev pub invariant-loop-at : goal.invariant-loop-at
invariant-loop-at g l = record {
  end : l.at-end ≡ l.growth.gone_on;
  collected : IsCollected (g.M.Machine.turn_of l.self.machine) (g.M.Machine.ended_of l.self.machine) (g.M.Machine.start_of l.self.machine) l.self.cpus (nodes_of (g.M.Machine.kept l.growth.store) l.growth.links) l.growth.is_whole (all_told (g.M.Machine.start_of l.self.machine) (g.M.Machine.kept l.growth.store) l.outcomes.items) l.at;
  short : All (λ outcome. length outcome.order.items ≤ l.self.turns) l.outcomes.items;
  orders : All (λ outcome. IsOrder l.self.cpus outcome.order.items) l.outcomes.items;
  places : All (λ outcome. outcome.place < l.at) l.outcomes.items;
}
