use Rattle.lwkt_cpu.proofs.calls.read_blob.Goals as goal

pub returns-clause-ran : goal.returns-clause-ran
returns-clause-ran c = c.read_blob-came.ensures.keeps.ran

pub returns-clause-held : goal.returns-clause-held
returns-clause-held c = c.read_blob-came.ensures.keeps.held
