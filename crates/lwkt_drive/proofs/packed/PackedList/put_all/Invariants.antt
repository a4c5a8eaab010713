use Rattle.std.proofs.Common.{◌≡◌, ◌≤◌, ◌++◌, take}
use Rattle.lwkt_drive.proofs.packed.PackedList.put_all.Given as goal

abbrev pub invariant-loop-event : goal.invariant-loop-event
invariant-loop-event l = record {
  items : l.self.items ≡ l.initial.self.items ++ take l.event-index l.events;
  capacity : l.initial.self.capacity ≤ l.self.capacity;
}
