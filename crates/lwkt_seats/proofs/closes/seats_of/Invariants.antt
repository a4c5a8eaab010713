use Rattle.std.proofs.Common.{◌≡◌, ◌≤◌, ◌++◌, length, map, vec_capacity}
use Rattle.lwkt_seats.proofs.CloseMoves.{seat_in}
use Rattle.lwkt_seats.proofs.closes.seats_of.Given as goal

abbrev pub invariant-loop-taken : goal.invariant-loop-taken
invariant-loop-taken l = record {
  whole : l.yielded ++ l.taken-iterator.rest.items ≡ l.fn.sitters.items;
  is : l.seats.items ≡ map seat_in l.yielded;
  room : length l.fn.sitters.items ≤ vec_capacity l.seats;
}
