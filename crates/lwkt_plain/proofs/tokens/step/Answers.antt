use Rattle.std.proofs.Common.{arith}
use Rattle.lwkt_core.specs.Events.{cpu_of}
use Rattle.lwkt_core.proofs.MachineMoves.{references_le}
use Rattle.lwkt_plain.proofs.tokens.step.Goals as goal

pub apply-requires-clause-few : goal.apply-requires-clause-few
apply-requires-clause-few c = λ adds.
    let one = references_le c.args.tokens.now (cpu_of c.args.event.now) c.in-AtToken.at c.at-token.result.now c.at-token.ensures.value in
    let few = c.requires.sound.safe.few (cpu_of c.args.event.now) in
    omega (arith, one, few)
