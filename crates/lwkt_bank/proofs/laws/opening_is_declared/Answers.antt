use Rattle.lwkt_bank.proofs.MadeMoves.{declared}
use Rattle.lwkt_bank.proofs.laws.opening_is_declared.Goals as goal

pub returns : goal.returns
returns c = declared
