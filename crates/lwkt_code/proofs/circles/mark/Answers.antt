use Rattle.std.proofs.Common.{arith}
use Rattle.lwkt_code.proofs.Marking.{one_marked}
use Rattle.lwkt_code.proofs.circles.mark.Goals as goal

pub loop-ready-preserved : goal.loop-ready-preserved
loop-ready-preserved c = let w = c.in-Some.ensures.within in (one_marked c.args.steps.now c.loop-ready.marks c.args.begin c.in-Some.ready.0 c.in-Some.ready.1 (omega arith) c.loop-ready.invariant c.in-Some.ensures).0

pub loop-ready-smaller : goal.loop-ready-smaller
loop-ready-smaller c = let w = c.in-Some.ensures.within in (one_marked c.args.steps.now c.loop-ready.marks c.args.begin c.in-Some.ready.0 c.in-Some.ready.1 (omega arith) c.loop-ready.invariant c.in-Some.ensures).1
