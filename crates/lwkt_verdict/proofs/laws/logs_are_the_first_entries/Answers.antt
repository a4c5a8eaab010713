use Rattle.lwkt_verdict.proofs.HistoryMoves.{logs_are_first}
use Rattle.lwkt_verdict.proofs.laws.logs_are_the_first_entries.Goals as goal

pub returns : goal.returns
returns c = logs_are_first
