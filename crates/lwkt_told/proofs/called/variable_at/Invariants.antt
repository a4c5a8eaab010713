use Rattle.std.proofs.Common.{◌≡◌, drop, slice_get}
use Rattle.lwkt_text.specs.Naming.{variables_of}
use Rattle.lwkt_told.proofs.called.variable_at.Given as goal

abbrev pub invariant-loop-variable : goal.invariant-loop-variable
invariant-loop-variable l = slice_get (variables_of l.i (drop l.variable-index l.vars)) l.left ≡ slice_get (variables_of l.i l.vars) l.n
