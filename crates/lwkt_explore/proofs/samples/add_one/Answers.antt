use Rattle.lwkt_explore.proofs.samples.add_one.Goals as goal

pub returns-clause-short : goal.returns-clause-short
returns-clause-short g c = c.add.ensures.short c.args.most c.in_ok-order.ensures.order.short c.requires.short
