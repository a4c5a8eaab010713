use Rattle.lwkt_search.specs.Graphs.{nodes_of}
use Rattle.lwkt_search.specs.Losses.{IsAgain}
use Rattle.lwkt_search.proofs.losses.leads_out.Given as goal

abbrev pub invariant-loop-set : goal.invariant-loop-set
invariant-loop-set g l = record {
  sound : g.M.Machine.is_sound l.task.machine l.store;
  again : IsAgain (nodes_of (g.M.Machine.kept l.fn.store) l.links) l.links l.is_whole (g.M.Machine.kept l.store);
}
