use Rattle.lwkt_port.proofs.Lawful.{owed_once, unowed_not}
use Rattle.lwkt_port.proofs.laws.owed_replies_are_made_once.Goals as goal

pub returns : goal.returns
returns c = record { once = owed_once; only = unowed_not }
