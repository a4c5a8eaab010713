use Rattle.std.proofs.Common.{string_bytes, ◌∙◌}
use Rattle.std.specs.Option.{option_copied}
use Rattle.lwkt_show.proofs.Rows.{shown_whole}
use Rattle.lwkt_show.proofs.lines.lines_of.Goals as goal

pub returns-clause-lines : goal.returns-clause-lines
returns-clause-lines c =
    let run = c.args.run.now in
    shown_whole (option_copied c.args.names) c.args.chosen (option_copied run.order) run.script.now run.polls.now run.turns.now run.closing.now (string_bytes c.in_ok-out.out) c.as_str.result.now (string_bytes c.push_str.new.out)
    c.in_ok-out.ensures.begins (c.as_str.ensures.value ∙ c.in_ok-text.ensures) c.in_ok-push_str.ensures
