use Rattle.std.proofs.Common.{arith}
use Rattle.lwkt_explore.proofs.dives.add_one.Goals as goal

pub returns-in-Ok-clause-short : goal.returns-in-Ok-clause-short
returns-in-Ok-clause-short g c = c.add.ensures.short c.args.bounds.turns (omega (arith, c.in_ok-order.ensures.order.short, c.requires.most)) c.requires.short
