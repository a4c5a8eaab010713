use Rattle.lwkt_request.proofs.commands.with_random.Goals as goal

pub returns : goal.returns
returns c = λ app built. c.with_value.ensures _ (c.with_value-command.ensures _ built)
