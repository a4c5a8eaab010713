use Rattle.lwkt_port.proofs.SightMoves.{sent_delivered, own_delivered}
use Rattle.lwkt_port.proofs.laws.sent_notes_are_delivered.Goals as goal

pub returns : goal.returns
returns c = record { others = sent_delivered; own = own_delivered }
