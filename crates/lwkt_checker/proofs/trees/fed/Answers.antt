use Rattle.lwkt_checker.proofs.Knowing.{nothing_known, fed_more}
use Rattle.lwkt_checker.proofs.trees.fed.Goals as goal

pub loop-stated-init : goal.loop-stated-init
loop-stated-init c = nothing_known c.args.opening.now c.in_ok-judge.judge c.requires.events c.in_ok-judge.ensures.knows

pub loop-stated-preserved : goal.loop-stated-preserved
loop-stated-preserved c =
    fed_more c.args.opening.now c.args.events.now c.loop-stated.stated-index c.stated-item.result c.loop-stated.judge c.in_ok-judge-2.judge c.loop-stated-test.true c.stated-item.is c.loop-stated.invariant c.in_ok-judge-2.ensures.knows
