use Rattle.std.proofs.Common.{◌≡◌, ◌≤◌, ◌<◌, ℕ, false, get_or, take}
use Rattle.std.specs.Prelude.{vec_capacity}
use Rattle.std.specs.Slots.{slots_items, slots_filled, slots_len}
use Rattle.std.specs.Slots.Ownership.{Filled}
use Rattle.lwkt_bank.proofs.closings.take_slots.Given as goal

abbrev pub invariant-loop-slot : goal.invariant-loop-slot
invariant-loop-slot l = record {
  many : slots_len l.closed.slots ≡ l.slot-end;
  filled : Filled (slots_filled l.closed.slots) l.slot (slots_len l.closed.slots);
  emptied : (k : ℕ) → k < l.slot → get_or (slots_filled l.closed.slots) k false ≡ false;
  words : l.closed.words ≡ l.initial.closed.words;
  items : slots_items l.closed.slots ≡ slots_items l.initial.closed.slots;
  taken : l.slots.items ≡ take l.slot (slots_items l.initial.closed.slots);
  room : slots_len l.closed.slots ≤ vec_capacity l.slots;
}
