use Rattle.std.proofs.Common.{◌≡◌, ◌↔◌, ℕ, ◌<◌, length, true, false, slice_index_or}
use Rattle.lwkt_search.specs.Graphs.{nodes_of, node_at}
use Rattle.lwkt_search.proofs.losses.ends_of.Given as goal

abbrev pub invariant-loop-at : goal.invariant-loop-at
invariant-loop-at g l = record {
  end : l.at-end ≡ length l.links;
  same : length l.reaches.items ≡ l.at;
  exact : (k : ℕ) → k < l.at → (slice_index_or l.reaches.items k false ≡ true) ↔ g.M.Machine.ended_of l.task.machine (node_at (g.M.Machine.start_of l.task.machine) (nodes_of (g.M.Machine.kept l.store) l.links) k).state;
}
