use Rattle.lwkt_verdict.proofs.PlanMoves.{thread_found}
use Rattle.lwkt_verdict.proofs.plans.find_thread.Goals as goal

pub returns-then-left-eq0-clause-there : goal.returns-then-left-eq0-clause-there
returns-then-left-eq0-clause-there c =
    thread_found c.args.cpu c.args.n c.loop-i.left c.args.plans.now c.loop-i.i c.index-plans-i.result c.loop-i-test.true c.index-plans-i.is c.if-plan-cpu.true c.if-left-eq0.true c.loop-i.invariant
