use Rattle.lwkt_port.proofs.DeliveryMoves.{seen_taken}
use Rattle.lwkt_port.proofs.laws.seen_notes_are_taken_in.Goals as goal

pub returns : goal.returns
returns c = seen_taken
