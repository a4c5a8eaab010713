use Rattle.lwkt_code.proofs.Ways.{circles_are_endless}
use Rattle.lwkt_code.proofs.laws.circles_are_endless.Goals as goal

pub returns : goal.returns
returns c = circles_are_endless
