use Rattle.lwkt_verdict.proofs.HistoryMoves.{asks_follow}
use Rattle.lwkt_verdict.proofs.laws.asks_are_those_of_the_script.Goals as goal

pub returns : goal.returns
returns c = asks_follow
