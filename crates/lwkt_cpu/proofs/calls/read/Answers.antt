use Rattle.lwkt_cpu.proofs.calls.read.Goals as goal

pub returns-clause-ran : goal.returns-clause-ran
returns-clause-ran c = c.read-came.ensures.keeps.ran

pub returns-clause-held : goal.returns-clause-held
returns-clause-held c = c.read-came.ensures.keeps.held
