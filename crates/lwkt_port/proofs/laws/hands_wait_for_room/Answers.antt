use Rattle.lwkt_port.proofs.HandMoves.{taken_wait, paid_wait}
use Rattle.lwkt_port.proofs.laws.hands_wait_for_room.Goals as goal

pub returns : goal.returns
returns c = record { taken = taken_wait; paid = paid_wait }
