use Rattle.std.proofs.Common.{◌≡◌, subst, ⊎_elim, arith}
use Rattle.std.proofs.lemmas.Bool.{cases_lt}
use Rattle.lwkt_code.specs.Marks.{Opens}
use Rattle.lwkt_code.proofs.circles.find_circle.Goals as goal

pub loop-begin-preserved : goal.loop-begin-preserved
loop-begin-preserved c = λ k w. ⊎_elim (λ l. c.loop-begin.invariant k l) (λ g. let e : c.loop-begin.begin ≡ k = omega arith in subst (λ n. Opens c.args.steps.now n) e c.in-None.ensures) (cases_lt k c.loop-begin.begin)
