use Rattle.lwkt_core.proofs.tokens.Token.lack.Goals as goal

pub returns-in-GiveWritten : goal.returns-in-GiveWritten
returns-in-GiveWritten c = rw (c.in-GiveWritten.is) c.give_written_lack.ensures
