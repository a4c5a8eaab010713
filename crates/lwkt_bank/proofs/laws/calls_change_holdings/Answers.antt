use Rattle.lwkt_bank.proofs.ChangeMoves.{same_holding}
use Rattle.lwkt_bank.proofs.HoldMoves.{taking_adds, again_adds, giving_removes}
use Rattle.lwkt_bank.proofs.laws.calls_change_holdings.Goals as goal

pub returns-clause-taking : goal.returns-clause-taking
returns-clause-taking c = taking_adds

pub returns-clause-again : goal.returns-clause-again
returns-clause-again c = again_adds

pub returns-clause-giving : goal.returns-clause-giving
returns-clause-giving c = giving_removes

pub returns-clause-others : goal.returns-clause-others
returns-clause-others c = same_holding
