use Rattle.lwkt_port.proofs.JoinMoves.{opened_joined, stay_joined}
use Rattle.lwkt_port.proofs.laws.lanes_stay_joined.Goals as goal

pub returns : goal.returns
returns c = record { opened = opened_joined; stay = stay_joined }
