use Rattle.std.proofs.Common.{◌≡◌, ◌+◌, ◌-◌, ◌≤◌, vec_len, vec_capacity, length}
use Rattle.lwkt_bank.specs.Closing.{Gathering}
use Rattle.lwkt_bank.proofs.gathers.gather.Given as goal

abbrev pub invariant-loop-seat : goal.invariant-loop-seat
invariant-loop-seat l = record {
  same : l.clerk.table_id ≡ l.fn.clerk.table_id;
  id : l.clerk.id ≡ l.fn.clerk.id;
  so_far : Gathering (record { table = l.table.shared.table_id; plans = l.table.shared.key.plans.items }) l.clerk.me.0 l.fn.seats.items l.seats.items l.kept.items (length l.fn.seats.items - length l.seats.items);
  room : length l.kept.items + length l.seats.items ≤ vec_capacity l.kept;
}

abbrev pub decreases-loop-seat : goal.decreases-loop-seat
decreases-loop-seat l = vec_len l.seats
