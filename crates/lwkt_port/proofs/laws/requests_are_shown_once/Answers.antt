use Rattle.lwkt_port.proofs.Lawful.{requests_are_shown_once}
use Rattle.lwkt_port.proofs.laws.requests_are_shown_once.Goals as goal

pub returns : goal.returns
returns c = requests_are_shown_once
