use Rattle.std.proofs.Common.{◌≡◌, ◌<◌, length}
use Rattle.lwkt_search.specs.declared.rows.TheConstants.{UNTRIED}
use Rattle.lwkt_search.specs.Rows.{IsAmong}
use Rattle.lwkt_search.proofs.rows.furthest.Given as goal

abbrev pub invariant-loop-cpu : goal.invariant-loop-cpu
invariant-loop-cpu l = record {
  end : l.cpu-end ≡ length l.row;
  few : l.far < UNTRIED;
  among : IsAmong l.row l.at l.far;
}
