use Rattle.lwkt_cpu.proofs.calls.add.Goals as goal

pub returns-clause-ran : goal.returns-clause-ran
returns-clause-ran c = c.add-came.ensures.keeps.ran

pub returns-clause-held : goal.returns-clause-held
returns-clause-held c = c.add-came.ensures.keeps.held
