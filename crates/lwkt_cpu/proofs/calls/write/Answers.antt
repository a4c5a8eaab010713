use Rattle.lwkt_cpu.proofs.calls.write.Goals as goal

pub returns-clause-ran : goal.returns-clause-ran
returns-clause-ran c = c.write-came.ensures.keeps.ran

pub returns-clause-held : goal.returns-clause-held
returns-clause-held c = c.write-came.ensures.keeps.held
