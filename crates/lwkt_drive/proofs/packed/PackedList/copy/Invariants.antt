use Rattle.std.proofs.Common.{◌≡◌, ◌≤◌, length, take, drop}
use Rattle.lwkt_drive.proofs.packed.PackedList.copy.Given as goal

abbrev pub invariant-loop-i : goal.invariant-loop-i
invariant-loop-i l = record {
  room : l.room.items ≡ take l.i (drop l.fn.first l.fn.self.items);
  long : length l.room.items ≡ l.i;
  left : l.fn.count ≤ l.room.cap;
}
