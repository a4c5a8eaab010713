use Rattle.lwkt_run.proofs.JoinMoves.{joined}
use Rattle.lwkt_run.proofs.laws.runs_join.Goals as goal

pub returns : goal.returns
returns c = joined
