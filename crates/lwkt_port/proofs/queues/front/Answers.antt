use Rattle.lwkt_port.specs.Queues.{urgent_of, ordinary_of}
use Rattle.lwkt_port.proofs.Classing.{first_is, other_is}
use Rattle.lwkt_port.proofs.queues.front.Goals as goal

pub returns-in-Some : goal.returns-in-Some
returns-in-Some c = first_is (urgent_of c.args.port.now) (ordinary_of c.args.port.now) c.in-Some.note c.in-Some.ensures

pub returns-in-None : goal.returns-in-None
returns-in-None c = other_is (urgent_of c.args.port.now) (ordinary_of c.args.port.now) c.first-in-None.result c.in-None.ensures c.first-in-None.ensures
