use Rattle.std.proofs.Common.{◌≡◌, vec_len, All}
use Rattle.lwkt_msg.specs.Desks.{IsTaking}
use Rattle.lwkt_msg.proofs.closings.take_all.Given as goal

abbrev pub invariant-loop-seat : goal.invariant-loop-seat
invariant-loop-seat l = (l.clerk.table_id ≡ l.fn.clerk.table_id) × (l.clerk.id ≡ l.fn.clerk.id) × All (λ d. d.table ≡ l.top.table_id) l.seats.items × IsTaking l.cpus l.fn.clerk.me.0 l.fn.seats.items l.seats.items l.clerk.me.0

abbrev pub decreases-loop-seat : goal.decreases-loop-seat
decreases-loop-seat l = vec_len l.seats
