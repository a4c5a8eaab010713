use Rattle.std.proofs.Common.{◌≡◌, drop}
use Rattle.lwkt_code.specs.Flaws.{flaw_of_operands}
use Rattle.lwkt_code.proofs.checks.flaw_of_operands.Given as goal

abbrev pub invariant-loop-operand : goal.invariant-loop-operand
invariant-loop-operand l = flaw_of_operands (drop l.operand-index l.operands) ≡ flaw_of_operands l.operands
