use Rattle.lwkt_hold.proofs.ReadMoves.{whole_front, front_of_few, front_none}
use Rattle.lwkt_hold.proofs.laws.fronts_are_held.Goals as goal

pub returns : goal.returns
returns c = λ refs n holding. (whole_front refs holding, front_of_few refs n holding, front_none refs holding)
