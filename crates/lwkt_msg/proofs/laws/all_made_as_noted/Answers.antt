use Rattle.lwkt_msg.proofs.Spending.{all_made_as_noted}
use Rattle.lwkt_msg.proofs.laws.all_made_as_noted.Goals as goal

pub returns : goal.returns
returns c = all_made_as_noted
