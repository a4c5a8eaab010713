use Rattle.std.proofs.Common.{◌≡◌, ◌++◌, drop}
use Rattle.lwkt_code.proofs.copies.copy_operands.Given as goal

abbrev pub invariant-loop-operand : goal.invariant-loop-operand
invariant-loop-operand l = l.copies.items ++ drop l.operand-index l.operands ≡ l.operands
