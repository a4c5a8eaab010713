use Rattle.lwkt_request.proofs.commands.described.Goals as goal

pub returns : goal.returns
returns c = λ app built. c.with_long_end.ensures app (c.with_end-command.ensures app (c.with_long_about-command.ensures app (c.with_about-command.ensures app built)))
