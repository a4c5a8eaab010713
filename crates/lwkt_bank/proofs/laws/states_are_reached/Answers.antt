use Rattle.lwkt_bank.proofs.MadeMoves.{reached, decided}
use Rattle.lwkt_bank.proofs.laws.states_are_reached.Goals as goal

pub returns-clause-reached : goal.returns-clause-reached
returns-clause-reached c = reached

pub returns-clause-decided : goal.returns-clause-decided
returns-clause-decided c = decided
