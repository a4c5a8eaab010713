use Rattle.lwkt_request.proofs.commands.explore_command.Goals as goal

pub returns : goal.returns
returns c =
    c.with_file.ensures _ (c.with_flag-command-2.ensures _ (c.with_layouts-command.ensures _ (c.with_flag-command.ensures _ (c.with_random-command.ensures _ (c.with_bounds-command.ensures _ (c.with_ways-command.ensures _ (c.described.ensures _ (record { is = c.new.ensures.app; local = c.new.ensures.local; whole = c.new.ensures.whole }))))))))
