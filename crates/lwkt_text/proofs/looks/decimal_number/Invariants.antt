use Rattle.std.proofs.Common.{◌≡◌, drop}
use Rattle.lwkt_text.specs.Looking.{digits}
use Rattle.lwkt_text.proofs.looks.decimal_number.Given as goal

abbrev pub invariant-loop-byte : goal.invariant-loop-byte
invariant-loop-byte l = digits l.n (drop l.byte-index l.text) ≡ digits 0 l.text
