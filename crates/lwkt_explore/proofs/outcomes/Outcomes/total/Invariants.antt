use Rattle.std.proofs.Common.{◌≤◌, sum, take}
use Rattle.lwkt_explore.proofs.outcomes.Outcomes.total.Given as goal

abbrev pub invariant-loop-count : goal.invariant-loop-count
invariant-loop-count l = l.total ≤ sum (take l.count-index l.count-items)
