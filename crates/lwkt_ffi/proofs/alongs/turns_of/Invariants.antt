use Rattle.std.proofs.Common.{◌≡◌, ◌++◌, drop}
use Rattle.std.specs.List.{flat_map}
use Rattle.lwkt_ffi.specs.Alongs.{turn_of_byte}
use Rattle.lwkt_ffi.proofs.alongs.turns_of.Given as goal

-- the turns that are named so far, with those to come, are the whole order
abbrev pub invariant-loop-byte : goal.invariant-loop-byte
invariant-loop-byte l =
    l.order.items ++ flat_map turn_of_byte (drop l.byte-index l.bytes) ≡ flat_map turn_of_byte l.bytes
