use Rattle.lwkt_request.proofs.commands.with_bounds.Goals as goal

pub returns : goal.returns
returns c = λ app built. c.with_value.ensures _ (c.with_value-command-3.ensures _ (c.with_value-command-2.ensures _ (c.with_value-command.ensures _ built)))
