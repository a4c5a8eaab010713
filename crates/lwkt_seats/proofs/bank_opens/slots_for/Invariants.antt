use Rattle.std.proofs.Common.{◌≡◌, ◌++◌, length}
use Rattle.std.specs.Arc.{arc_value}
use Rattle.lwkt_seats.specs.FirstPlaces.{AreSlotsOf}
use Rattle.lwkt_seats.proofs.bank_opens.slots_for.Given as goal

abbrev pub invariant-loop-seat : goal.invariant-loop-seat
invariant-loop-seat l = record {
  whole : l.yielded ++ l.seat-iterator.rest.items ≡ l.fn.seats.items;
  many : length l.slots.items ≡ length l.yielded;
  seated : AreSlotsOf (arc_value l.bank) l.slots.items;
}
