use Rattle.lwkt_port.proofs.Emptying.{popped_so}
use Rattle.lwkt_port.proofs.lines.pop.Goals as goal

pub returns : goal.returns
returns c = popped_so c.pop.result c.args.line.now c.pop.new.self c.pop.ensures.received c.pop.ensures.none c.pop.ensures.some c.pop.ensures.lane
