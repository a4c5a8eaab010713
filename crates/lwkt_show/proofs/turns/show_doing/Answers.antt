use Rattle.std.proofs.Common.{refl, Some, None}
use Rattle.std.specs.Option.{option_copied}
use Rattle.lwkt_show.specs.Lines.{IsDoing, AddsWords, poll_text}
use Rattle.lwkt_show.proofs.turns.show_doing.Goals as goal

pub returns-in-Some : goal.returns-in-Some
returns-in-Some c =
    let shows : AddsWords (IsDoing (option_copied c.args.names) (Some c.in-Some.poll)) c.args.out.now c.show_poll.new.out = record {
      words = poll_text (option_copied c.args.names) c.in-Some.poll c.way_of-way.result c.step_of-step.result c.came_of-came.result;
      holds = (c.way_of-way.result, c.step_of-step.result, c.came_of-came.result, refl);
      grows = c.show_poll.ensures;
    } in
    rw c.in-Some.is shows

pub returns-in-None : goal.returns-in-None
returns-in-None c =
    let shows : AddsWords (IsDoing (option_copied c.args.names) None) c.args.out.now c.show_idle.new.out = c.show_idle.ensures in
    rw c.in-None.is shows
