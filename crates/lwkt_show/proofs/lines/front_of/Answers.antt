use Rattle.std.proofs.Common.{string_bytes}
use Rattle.std.specs.Option.{option_copied}
use Rattle.lwkt_show.specs.Lines.{AreTurnLines, AddsWords}
use Rattle.lwkt_show.proofs.Rows.{shown_with, begins}
use Rattle.lwkt_show.proofs.lines.front_of.Goals as goal

pub returns-clause-begins : goal.returns-clause-begins
returns-clause-begins c =
    let run = c.args.run.now in
    let turns = c.in_turns-turns.result in
    let shows : AddsWords (AreTurnLines (option_copied c.args.names) c.args.chosen (option_copied run.order) run.script.now.cpus run.polls.now run.turns.now) c.new-out.result c.show_choice.new.out =
    shown_with (option_copied c.args.names) c.args.chosen (option_copied run.order) run.script.now.cpus run.polls.now run.turns.now turns.first turns.last c.new-out.result c.show_turns-from.new.out c.show_choice.new.out
    c.in_turns-turns.ensures.first c.in_turns-turns.ensures.last c.show_turns-from.ensures c.show_choice.ensures in
    begins (AreTurnLines (option_copied c.args.names) c.args.chosen (option_copied run.order) run.script.now.cpus run.polls.now run.turns.now) c.new-out.result c.show_choice.new.out c.add_page.new.self (string_bytes c.show_behind.new.out.text) (string_bytes c.in_ok-text.text)
    c.new-out.ensures.empty shows c.add_page.ensures.text c.in_ok-text.ensures.0 c.in_ok-text.ensures.1
