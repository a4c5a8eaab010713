use Rattle.std.proofs.Common.{ℕ, Option, sym, subst, refl, arith}
use Rattle.std.specs.Prelude.{MatchOption}
use Rattle.lwkt_code.specs.Accepted.{IsCircle}
use Rattle.lwkt_code.specs.Marks.{Opens}
use Rattle.lwkt_code.proofs.Marking.{none_marked, found_circle}
use Rattle.lwkt_code.proofs.circles.circle_from.Goals as goal

pub mark-requires-clause-marks : goal.mark-requires-clause-marks
mark-requires-clause-marks c = none_marked c.args.steps.now c.args.begin _ 769 refl

pub returns : goal.returns
returns c = subst (λ (o : Option ℕ). MatchOption o (Opens c.args.steps.now c.args.begin) (IsCircle c.args.steps.now c.args.begin)) (sym c.place_of.ensures)
    (found_circle c.args.steps.now c.mark.new.marks c.args.begin c.back_from.result (omega arith) c.back_from.ensures c.mark.ensures.marks c.mark.ensures.all)
