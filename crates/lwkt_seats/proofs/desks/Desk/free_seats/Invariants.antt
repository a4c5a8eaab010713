use Rattle.std.proofs.Common.{◌≡◌, ◌≤◌, length, vec_capacity}
use Rattle.lwkt_seats.specs.Closes.{AreFree}
use Rattle.lwkt_seats.specs.Desks.{seats_of}
use Rattle.lwkt_seats.proofs.desks.Desk.free_seats.Given as goal

abbrev pub invariant-loop-number : goal.invariant-loop-number
invariant-loop-number l = record {
  count : length l.sitters.items ≡ l.number;
  free : AreFree l.self l.sitters.items;
  room : seats_of l.self ≤ vec_capacity l.sitters;
  wider : vec_capacity l.initial.sitters ≤ vec_capacity l.sitters;
}
