use Rattle.std.proofs.Common.{◌≡◌, ◌-◌, ◌*◌, ◌≤◌}
use Rattle.lwkt_bank.specs.Seats.{holding}
use Rattle.lwkt_bank.specs.Views.{count_from}
use Rattle.lwkt_seats.proofs.asks.count.Given as goal

abbrev pub invariant-loop-done : goal.invariant-loop-done
invariant-loop-done l = record {
  counted : l.sum ≡ count_from (l.tokens - l.done) l.done (holding l.seat);
  few : l.sum ≤ 256 * l.done;
}
