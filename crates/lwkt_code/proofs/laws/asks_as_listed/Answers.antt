use Rattle.lwkt_code.proofs.Lists.{asks_as_listed}
use Rattle.lwkt_code.proofs.laws.asks_as_listed.Goals as goal

pub returns : goal.returns
returns c = asks_as_listed
