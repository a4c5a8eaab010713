use Rattle.lwkt_machine.proofs.PartMoves.{threads_are_parts}
use Rattle.lwkt_machine.proofs.laws.threads_are_parts_of_runs.Goals as goal

pub returns : goal.returns
returns g c = λ gate limits script opened driven closed opens drives closes.
    threads_are_parts (g.G.Gate.answers gate) limits script opened driven closed opens drives closes
