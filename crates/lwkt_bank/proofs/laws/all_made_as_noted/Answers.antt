use Rattle.lwkt_bank.proofs.MadeMoves.{all_made_as_noted}
use Rattle.lwkt_bank.proofs.laws.all_made_as_noted.Goals as goal

pub returns : goal.returns
returns c = all_made_as_noted
