use Rattle.lwkt_msg.proofs.Picturing.{opening_is_declared}
use Rattle.lwkt_msg.proofs.laws.opening_is_declared.Goals as goal

pub returns : goal.returns
returns c = opening_is_declared
