use Rattle.lwkt_verdict.proofs.HistoryMoves.{ends_last}
use Rattle.lwkt_verdict.proofs.laws.nothing_follows_an_end.Goals as goal

pub returns : goal.returns
returns c = ends_last
