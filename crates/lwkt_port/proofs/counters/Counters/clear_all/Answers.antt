use Rattle.std.proofs.Common.{arith}
use Rattle.lwkt_port.specs.Intakes.{clearing}
use Rattle.lwkt_port.proofs.Hinting.{clears_none}
use Rattle.lwkt_port.proofs.counters.Counters.clear_all.Goals as goal

pub returns-else-self-clause-clears : goal.returns-else-self-clause-clears
returns-else-self-clause-clears c = (16, clears_none 16 (clearing c.args.self.now c.args.trace.now 16) (omega (arith, c.args.self.now.as_many)) (c.args.self.now.hint c.if-self.false))
