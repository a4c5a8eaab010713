use Rattle.std.proofs.Common.{◌≡◌, ℕ, ◌<◌, false, get_or}
use Rattle.std.specs.Slots.{slots_filled, slots_len}
use Rattle.std.specs.Slots.Ownership.{Filled}
use Rattle.lwkt_msg.proofs.closings.free.Given as goal

abbrev pub invariant-loop-slot : goal.invariant-loop-slot
invariant-loop-slot l = (slots_len l.closed.slots ≡ l.slot-end) × Filled (slots_filled l.closed.slots) l.slot (slots_len l.closed.slots) × ((k : ℕ) → k < l.slot → get_or (slots_filled l.closed.slots) k false ≡ false)
