use Rattle.lwkt_run.proofs.OrderMoves.{rounds_along}
use Rattle.lwkt_run.proofs.laws.rounds_are_an_order.Goals as goal

pub returns : goal.returns
returns c = rounds_along
