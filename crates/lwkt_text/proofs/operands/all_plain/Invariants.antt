use Rattle.std.proofs.Common.{◌≡◌, drop}
use Rattle.lwkt_text.specs.Operating.{all_plain}
use Rattle.lwkt_text.proofs.operands.all_plain.Given as goal

abbrev pub invariant-loop-operand : goal.invariant-loop-operand
invariant-loop-operand l = all_plain (drop l.operand-index l.operands) ≡ all_plain l.operands
