use Rattle.lwkt_request.proofs.commands.command_line.Goals as goal

pub returns : goal.returns
returns c =
    c.above.ensures _ _ (c.above-command-4.ensures _ _ (c.above-command-3.ensures _ _ (c.above-command-2.ensures _ _ (c.above-command.ensures _ _ c.top.ensures c.run_command.ensures) c.show_command.ensures) c.check_command.ensures) c.text_command.ensures) c.explore_command.ensures
