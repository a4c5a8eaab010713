use Rattle.std.proofs.Common.{◌≡◌, ◌∙◌, true, false, sym, option_copied}
use Rattle.lwkt_show.proofs.Refusals.{show_refused}
use Rattle.lwkt_show.proofs.shows.show_script.Goals as goal

pub returns-then-ends_before-clause-none : goal.returns-then-ends_before-clause-none
returns-then-ends_before-clause-none c = λ none. record { run = c.in_ok-run.run'; is_run = c.in_ok-run.ensures.ok; before = c.ends_before.ensures.0 c.if-ends_before.true }

pub returns-clause-refused : goal.returns-clause-refused
returns-clause-refused c = show_refused c.args.script.now (option_copied c.args.order) c.in_ok-run.run' c.in-Err.fault c.in_ok-run.ensures.ok c.in-Err.ensures.refused

pub returns-in-Ok-clause-shown : goal.returns-in-Ok-clause-shown
returns-in-Ok-clause-shown c = record {
  run = c.in_ok-run.run';
  is_run = c.in_ok-run.ensures.ok;
  not_before = λ before. let e : true ≡ false = sym (c.ends_before.ensures.1 before) ∙ c.if-ends_before.false in cc;
  is_end = c.end_of_closing-end.ensures;
  shows = c.in-Ok.ensures.shows;
}
