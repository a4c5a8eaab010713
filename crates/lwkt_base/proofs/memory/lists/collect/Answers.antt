use Rattle.lwkt_base.proofs.memory.lists.collect.Goals as goal

pub returns-in-Ok : goal.returns-in-Ok
returns-in-Ok g c = record { runs = c.in-Ok.ensures.runs tt }
