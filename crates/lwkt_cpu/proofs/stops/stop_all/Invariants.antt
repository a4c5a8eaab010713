use Rattle.lwkt_cpu.proofs.StopMoves.{AreStoppedBelow}
use Rattle.lwkt_cpu.proofs.stops.stop_all.Given as goal

abbrev pub invariant-loop-at : goal.invariant-loop-at
invariant-loop-at l = AreStoppedBelow l.at l.initial.threads l.threads
