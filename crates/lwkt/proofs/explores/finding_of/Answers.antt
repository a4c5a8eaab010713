use Rattle.std.proofs.Common.{◌∙◌, ap, subst, List}
use Rattle.lwkt_explore.specs.Expectations.{status_of_text}
use Rattle.lwkt_explore.specs.Rounds.{AreRounds}
use Rattle.lwkt_text.specs.declared.claims.Expectation.{Expectation}
use Rattle.lwkt.proofs.explores.finding_of.Goals as goal

pub returns-clause-exact : goal.returns-clause-exact
returns-clause-exact g c = record {
  found = c.in_ok-found.found;
  is_found = c.in_ok-found.ensures.found;
  rounds = c.in_ok-rounds.rounds;
  are_rounds =
      let F : List Expectation → Type 0 = λ said. AreRounds c.args.input.now.script said c.in_ok-rounds.rounds in
      subst F c.as_slice-expectations.ensures c.in_ok-rounds.ensures.made;
  is_text = c.in_ok-text.ensures;
  is_status = c.status_of_text-status.ensures ∙ ap (λ (said : List Expectation). status_of_text said c.in_ok-rounds.rounds c.in_ok-found.found) c.as_slice-expectations.ensures;
}

pub returns-clause-made : goal.returns-clause-made
returns-clause-made g c = record {
  bytes = c.args.bytes.now;
  is = record {
    found = c.in_ok-found.found;
    is_found = c.in_ok-found.ensures.found;
    rounds = c.in_ok-rounds.rounds;
    are_rounds =
        let F : List Expectation → Type 0 = λ said. AreRounds c.args.input.now.script said c.in_ok-rounds.rounds in
        subst F c.as_slice-expectations.ensures c.in_ok-rounds.ensures.made;
    is_text = c.in_ok-text.ensures;
    is_status = c.status_of_text-status.ensures ∙ ap (λ (said : List Expectation). status_of_text said c.in_ok-rounds.rounds c.in_ok-found.found) c.as_slice-expectations.ensures;
  };
}
