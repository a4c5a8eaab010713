use Rattle.std.proofs.Common.{◌≡◌, take}
use Rattle.lwkt_machine.specs.Scripts.{bodies_on}
use Rattle.lwkt_machine.proofs.scripts.bodies_on.Given as goal

abbrev pub invariant-loop-spec : goal.invariant-loop-spec
invariant-loop-spec l = l.bodies.items ≡ bodies_on l.cpu (take l.spec-index l.threads)
