use Rattle.lwkt_port.proofs.Lawful.{lanes_lose_none}
use Rattle.lwkt_port.proofs.laws.lanes_lose_none.Goals as goal

pub returns : goal.returns
returns c = lanes_lose_none
