use Rattle.std.proofs.Common.{drop}
use Rattle.std.specs.Option.{option_copied}
use Rattle.lwkt_refusals.specs.declared.pages.Page.{Page}
use Rattle.lwkt_show.specs.Lines.{AreLines, AddsWords}
use Rattle.lwkt_show.proofs.lines.show_turns.Given as goal

-- with the lines to come all lines are written
abbrev pub invariant-loop-number : goal.invariant-loop-number
invariant-loop-number l =
    (final : Page) → AddsWords (AreLines (option_copied l.names) l.chosen.first l.chosen.last (option_copied l.run.order) l.run.script.now.cpus l.run.polls.now l.number (drop l.number l.run.turns.now)) l.out final
    → AddsWords (AreLines (option_copied l.names) l.chosen.first l.chosen.last (option_copied l.run.order) l.run.script.now.cpus l.run.polls.now 0 l.run.turns.now) l.initial.out final
