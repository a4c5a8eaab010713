use Rattle.std.proofs.Common.{◌≡◌, take}
use Rattle.lwkt_bank.specs.Opened.{opening_slots}
use Rattle.lwkt_bank.proofs.first_tables.slots_of.Given as goal

abbrev pub invariant-loop-spec : goal.invariant-loop-spec
invariant-loop-spec l = l.slots.items ≡ opening_slots (take l.spec-index l.specs)
