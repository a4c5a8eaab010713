use Rattle.lwkt_code.proofs.Ways.{none_endless}
use Rattle.lwkt_code.proofs.laws.none_endless.Goals as goal

pub returns : goal.returns
returns c = none_endless
