use Rattle.std.proofs.Common.{◌≡◌, length, All}
use Rattle.lwkt_search.specs.Runs.{all_told, IsOrder}
use Rattle.lwkt_search.specs.Graphs.{nodes_of}
use Rattle.lwkt_search.specs.Losses.{IsLostList}
use Rattle.lwkt_search.proofs.losses.lost_of.Given as goal

abbrev pub invariant-loop-at : goal.invariant-loop-at
invariant-loop-at g l = record {
  end : l.at-end ≡ length l.growth.links;
  lost : IsLostList (g.M.Machine.turn_of l.task.machine) (g.M.Machine.ended_of l.task.machine) (g.M.Machine.start_of l.task.machine) l.task.cpus (nodes_of (g.M.Machine.kept l.growth.store) l.growth.links) l.growth.is_whole (all_told (g.M.Machine.start_of l.task.machine) (g.M.Machine.kept l.growth.store) l.lost.items) l.at;
  orders : All (λ one. IsOrder l.task.cpus one.order.items) l.lost.items;
}
