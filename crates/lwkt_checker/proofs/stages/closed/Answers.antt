use Rattle.std.proofs.lemmas.Bool.{iff_false}
use Rattle.lwkt_checker.proofs.Stops.{plays_last, fails_last}
use Rattle.lwkt_checker.proofs.stages.closed.Goals as goal

pub returns-then-closes : goal.returns-then-closes
returns-then-closes c = λ trace closing open_still counted values so.
    plays_last trace closing c.args.last.now c.args.state values so (c.closes.ensures.0 c.if-closes.true)

pub returns : goal.returns
returns c = λ trace closing open_still counted values so.
    fails_last trace closing c.args.last.now c.args.state c.args.count c.in_ok-difference.field-0 counted values so (iff_false c.closes.ensures c.if-closes.false) c.in_ok-difference.ensures
