use Rattle.std.proofs.Common.{ℕ, List, subst}
use Rattle.lwkt_run.specs.Run.{IsOrderRun}
use Rattle.lwkt_explore.proofs.outcomes.outcome_of.Goals as goal

pub returns-clause-ok : goal.returns-clause-ok
returns-clause-ok g c =
    let run = c.in_ok-run.run' in
    let F : List ℕ → Type 0 = λ order. IsOrderRun c.args.script.now order run in
    record {
      run = run;
      is_run = subst F c.as_slice.ensures.value c.in_ok-run.ensures.run;
      is_closing = c.in_ok-closing.ensures.same;
      lawful = c.in_ok-run.ensures.lawful;
      shows = c.in_ok-text.ensures;
      settled = c.in_ok-closing.ensures.settled;
      kind = c.in_ok-run.ensures.kind;
    }
