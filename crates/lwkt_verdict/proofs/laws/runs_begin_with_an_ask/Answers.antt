use Rattle.lwkt_verdict.proofs.LawMoves.{begins_with_an_ask}
use Rattle.lwkt_verdict.proofs.laws.runs_begin_with_an_ask.Goals as goal

pub returns : goal.returns
returns c = begins_with_an_ask
