use Rattle.std.proofs.Common.{◌≡◌}
use Rattle.lwkt_msg.specs.Desks.{IsClerk, AreSeats}
use Rattle.lwkt_msg.proofs.first_tables.seat_all.Given as goal

abbrev pub invariant-loop-cpu : goal.invariant-loop-cpu
invariant-loop-cpu l = (l.clerk.table_id ≡ l.fn.clerk.table_id) × (l.clerk.me.1 ≡ l.fn.clerk.me.1) × IsClerk l.cpu l.cpus l.specs l.clerk × AreSeats l.cpu (record { table = l.fn.clerk.table_id; cpus = l.cpus; specs = l.specs }) l.seats.items
