use Rattle.std.proofs.Common.{subst, sym, []}
use Rattle.lwkt_base.specs.declared.limits.TheConstants.{CPU_LIMIT}
use Rattle.lwkt_core.specs.Machine.{Needs, machine}
use Rattle.lwkt_plain.proofs.TokenSteps.{may_take}
use Rattle.lwkt_plain.proofs.tokens.take.Goals as goal

pub step-requires-clause-needs : goal.step-requires-clause-needs
step-requires-clause-needs c =
    subst (Needs (machine CPU_LIMIT c.args.tokens.now [])) (sym c.taking_event.ensures)
    (may_take c.args.tokens.now c.args.cpu c.requires.may.0 c.args.front.now c.args.r c.requires.here c.requires.sound c.requires.held c.requires.fits c.requires.may.1)
