use Rattle.lwkt_machine.proofs.PartMoves.{drives_are_parts}
use Rattle.lwkt_machine.proofs.laws.drives_are_parts_of_runs.Goals as goal

pub returns : goal.returns
returns g c = λ gate limits opened driven closed opens drives closes.
    drives_are_parts {B = g.row.B.Denot} g.B.Body.polled (g.G.Gate.answers gate) limits opened driven closed opens drives closes
