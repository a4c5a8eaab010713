use Rattle.std.proofs.Common.{◌≡◌, length}
use Rattle.lwkt_machine.specs.Scripts.{AreBodiesOf}
use Rattle.lwkt_machine.proofs.scripts.all_bodies.Given as goal

abbrev pub invariant-loop-cpu : goal.invariant-loop-cpu
invariant-loop-cpu l = (length l.lists.items ≡ l.cpu) × AreBodiesOf l.threads l.lists.items
