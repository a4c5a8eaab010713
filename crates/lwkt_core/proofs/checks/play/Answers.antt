use Rattle.std.proofs.Common.{subst}
use Rattle.lwkt_core.specs.declared.events.Event.{Event}
use Rattle.lwkt_core.specs.Machine.{Happens}
use Rattle.lwkt_core.proofs.TraceLemmas.{Run_more}
use Rattle.lwkt_core.proofs.checks.play.Goals as goal

pub loop-i-preserved : goal.loop-i-preserved
loop-i-preserved c = Run_more c.args.state.now c.args.events.now c.loop-i.i c.index-events-i.result c.loop-i.state c.step.new.self c.loop-i-test.true c.loop-i.invariant
    (subst (λ (e : Event). Happens c.loop-i.state e c.step.new.self) c.index-events-i.is c.in-Ok.ensures.ok)
