use Rattle.std.proofs.Common.{◌≡◌, ◌≤◌, ◌-◌, length, None}
use Rattle.lwkt_search.specs.Graphs.{IsGrowth}
use Rattle.lwkt_search.proofs.searches.Task.grow.Given as goal

abbrev pub invariant-loop-growth : goal.invariant-loop-growth
invariant-loop-growth g l = record {
  sound : g.M.Machine.is_sound l.self.machine l.growth.store;
  growth : IsGrowth (g.M.Machine.turn_of l.self.machine) (g.M.Machine.ended_of l.self.machine) (g.M.Machine.start_of l.self.machine) l.self.cpus l.self.turns (g.M.Machine.kept l.growth.store) l.growth;
  met : l.growth.met ≡ None;
  few : length l.growth.links ≤ l.self.bound;
}

abbrev pub decreases-loop-growth : goal.decreases-loop-growth
decreases-loop-growth g l = l.self.bound - l.growth.gone_on
