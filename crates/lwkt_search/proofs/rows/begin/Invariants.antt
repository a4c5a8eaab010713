use Rattle.std.proofs.Common.{◌≡◌, ◌≤◌, replicate}
use Rattle.lwkt_search.specs.declared.rows.TheConstants.{UNTRIED}
use Rattle.lwkt_search.proofs.rows.begin.Given as goal

abbrev pub invariant-loop-cpu : goal.invariant-loop-cpu
invariant-loop-cpu l = record {
  within : l._cpu ≤ l.cpus;
  begun : l.row.items ≡ replicate l._cpu UNTRIED;
}
