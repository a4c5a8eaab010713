use Rattle.lwkt_msg.proofs.Picturing.{deeds_appended}
use Rattle.lwkt_msg.proofs.laws.deeds_are_appended.Goals as goal

pub returns : goal.returns
returns c = deeds_appended
