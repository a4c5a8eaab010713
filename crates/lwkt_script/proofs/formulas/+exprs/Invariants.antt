use Rattle.std.proofs.Common.{◌+◌, ◌*◌}
use Rattle.lwkt_script.proofs.formulas.+exprs.Given as goal

abbrev pub decreases-tree_in : goal.decreases-tree_in
decreases-tree_in l = 4 * l.deep

abbrev pub decreases-expr_in : goal.decreases-expr_in
decreases-expr_in l = 4 * l.deep + 1

abbrev pub decreases-expr_at : goal.decreases-expr_at
decreases-expr_at l = 4 * l.deep + 2

abbrev pub decreases-both_in : goal.decreases-both_in
decreases-both_in l = 4 * l.deep + 3
