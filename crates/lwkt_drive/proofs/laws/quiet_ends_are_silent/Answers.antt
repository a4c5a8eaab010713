use Rattle.lwkt_drive.proofs.CourseMoves.{ended_silently}
use Rattle.lwkt_drive.proofs.laws.quiet_ends_are_silent.Goals as goal

pub returns : goal.returns
returns g c = λ gate bank limits old new driven. ended_silently {B = g.row.B.Denot} g.B.Body.polled (g.G.Gate.answers gate) bank limits old new driven
