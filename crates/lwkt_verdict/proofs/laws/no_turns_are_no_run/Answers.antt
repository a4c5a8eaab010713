use Rattle.lwkt_verdict.proofs.LawMoves.{no_turns}
use Rattle.lwkt_verdict.proofs.laws.no_turns_are_no_run.Goals as goal

pub returns : goal.returns
returns c = no_turns
