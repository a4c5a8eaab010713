use Rattle.lwkt_request.proofs.commands.with_views.Goals as goal

pub returns : goal.returns
returns c = λ app built. c.with_value.ensures _ (c.with_flag-command-3.ensures _ (c.with_flag-command-2.ensures _ (c.with_flag-command.ensures _ built)))
