use Rattle.lwkt_request.proofs.commands.with_ways.Goals as goal

pub returns : goal.returns
returns c = λ app built. c.with_flag.ensures _ (c.with_flag-command.ensures _ built)
