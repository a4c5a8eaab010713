use Rattle.lwkt_verdict.proofs.HistoryMoves.{all_answered}
use Rattle.lwkt_verdict.proofs.laws.all_but_the_last_are_answered.Goals as goal

pub returns : goal.returns
returns c = all_answered
