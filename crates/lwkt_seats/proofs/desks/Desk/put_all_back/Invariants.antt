use Rattle.std.proofs.Common.{◌≡◌, vec_len, vec_capacity}
use Rattle.lwkt_seats.specs.Closes.{AreFree}
use Rattle.lwkt_seats.proofs.desks.Desk.put_all_back.Given as goal

abbrev pub invariant-loop-taken : goal.invariant-loop-taken
invariant-loop-taken l = record {
  free : AreFree l.self l.sitters.items;
  room : vec_capacity l.sitters ≡ vec_capacity l.initial.sitters;
}

abbrev pub decreases-loop-taken : goal.decreases-loop-taken
decreases-loop-taken l = vec_len l.sitters
