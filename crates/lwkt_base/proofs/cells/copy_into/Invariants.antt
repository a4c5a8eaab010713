use Rattle.std.proofs.Common.{◌≡◌, take, vec_len, length}
use Rattle.lwkt_base.proofs.cells.copy_into.Given as goal

abbrev pub invariant-loop-i : goal.invariant-loop-i
invariant-loop-i l = (vec_len l.items ≡ length l.values) × (take l.i l.items.items ≡ take l.i l.values)
