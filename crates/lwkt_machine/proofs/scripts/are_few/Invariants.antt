use Rattle.lwkt_machine.specs.Scripts.{AreFew}
use Rattle.lwkt_machine.proofs.scripts.are_few.Given as goal

abbrev pub invariant-loop-cpu : goal.invariant-loop-cpu
invariant-loop-cpu l = AreFew l.cpu l.threads
