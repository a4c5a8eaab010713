use Rattle.std.proofs.Common.{drop}
use Rattle.lwkt_trace.specs.Readback.{AreBytes}
use Rattle.lwkt_trace.proofs.ranges.words_of_bytes.Given as goal

-- all have 8 bits, if those to come do
abbrev pub invariant-loop-byte : goal.invariant-loop-byte
invariant-loop-byte l = AreBytes (drop l.byte-index l.bytes) → AreBytes l.bytes
