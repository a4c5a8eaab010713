use Rattle.lwkt_explore.proofs.searches.explore.Goals as goal

pub returns-clause-found : goal.returns-clause-found
returns-clause-found g c = c.take_in.ensures.found c.args.script.now c.in_ok-found.ensures.found c.dive.ensures.found

pub returns-clause-short : goal.returns-clause-short
returns-clause-short g c = c.take_in.ensures.short c.args.bounds.turns c.in_ok-found.ensures.short c.dive.ensures.short

pub returns-clause-once : goal.returns-clause-once
returns-clause-once g c = c.take_in.ensures.once c.in_ok-found.ensures.once
