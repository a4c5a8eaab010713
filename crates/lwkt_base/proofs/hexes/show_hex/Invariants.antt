use Rattle.std.proofs.Common.{◌≡◌, ◌++◌, string_bytes, drop}
use Rattle.std.specs.List.{flat_map}
use Rattle.lwkt_base.specs.Hex.{byte_text}
use Rattle.lwkt_base.proofs.hexes.show_hex.Given as goal

-- what is written, with the digits of the bytes to come, is the whole text
abbrev pub invariant-loop-byte : goal.invariant-loop-byte
invariant-loop-byte l =
    string_bytes l.out ++ flat_map byte_text (drop l.byte-index l.bytes) ≡ string_bytes l.initial.out ++ flat_map byte_text l.bytes
