use Rattle.std.proofs.Common.{◌≡◌, ◌++◌, drop}
use Rattle.std.specs.List.{flat_map}
use Rattle.lwkt_base.specs.Hex.{byte_text}
use Rattle.lwkt_trace.proofs.written.put_digits.Given as goal

-- what is written, with the digits of the bytes to come, is the whole text
abbrev pub invariant-loop-byte : goal.invariant-loop-byte
invariant-loop-byte g l = l.text.items ++ flat_map byte_text (drop l.byte-index l.bytes) ≡ l.initial.text.items ++ flat_map byte_text l.bytes
