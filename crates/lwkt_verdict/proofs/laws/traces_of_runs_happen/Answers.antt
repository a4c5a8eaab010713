use Rattle.lwkt_verdict.proofs.TraceMoves.{traces_happen}
use Rattle.lwkt_verdict.proofs.laws.traces_of_runs_happen.Goals as goal

pub returns : goal.returns
returns c = traces_happen
