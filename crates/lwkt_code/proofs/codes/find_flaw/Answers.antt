use Rattle.std.proofs.Common.{◌≡◌, None, sym, subst, ⊎_elim, arith}
use Rattle.std.proofs.lemmas.Bool.{cases_lt}
use Rattle.lwkt_code.specs.Programs.{flaw_at}
use Rattle.lwkt_code.proofs.codes.find_flaw.Goals as goal

pub loop-at-preserved : goal.loop-at-preserved
loop-at-preserved c = λ k w. ⊎_elim (λ l. c.loop-at.invariant k l) (λ g. let e : c.loop-at.at ≡ k = omega arith in subst (λ n. flaw_at c.args.steps.now n ≡ None) e (sym c.in-None.ensures)) (cases_lt k c.loop-at.at)
