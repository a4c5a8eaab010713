use Rattle.std.proofs.Common.{◌+◌, ◌*◌}
use Rattle.lwkt_script.proofs.formulas.+conds.Given as goal

abbrev pub decreases-cond_in : goal.decreases-cond_in
decreases-cond_in l = 6 * l.deep

abbrev pub decreases-inner_at : goal.decreases-inner_at
decreases-inner_at l = 6 * l.deep + 1

abbrev pub decreases-not_in : goal.decreases-not_in
decreases-not_in l = 6 * l.deep + 2

abbrev pub decreases-pair_in : goal.decreases-pair_in
decreases-pair_in l = 6 * l.deep + 2

abbrev pub decreases-cond_of : goal.decreases-cond_of
decreases-cond_of l = 6 * l.deep + 3

abbrev pub decreases-worded : goal.decreases-worded
decreases-worded l = 6 * l.deep + 4
