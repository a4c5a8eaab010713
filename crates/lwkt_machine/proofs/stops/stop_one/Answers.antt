use Rattle.lwkt_machine.proofs.StopMoves.{stop_same}
use Rattle.lwkt_machine.proofs.stops.stop_one.Goals as goal

pub returns-clause-same : goal.returns-clause-same
returns-clause-same g c = stop_same c.stop.result c.args.driven.now c.stop.new.self c.stop.ensures.ok c.stop.ensures.err
