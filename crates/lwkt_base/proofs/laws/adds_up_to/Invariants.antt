use Rattle.std.proofs.Common.{◌≡◌, sum, take}
use Rattle.lwkt_base.proofs.laws.adds_up_to.Given as goal

abbrev pub invariant-loop-cell : goal.invariant-loop-cell
invariant-loop-cell l = l.total ≡ sum (take l.cell-index l.cells)
