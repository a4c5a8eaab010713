use Rattle.lwkt_checker.proofs.programs.run_checker.Goals as goal

pub returns-clause-checks : goal.returns-clause-checks
returns-clause-checks g c = λ none. (c.check_stream-outcome.result, (c.check_stream-outcome.ensures.reports, (c.say_outcome.ensures, (c.check_stream-outcome.ensures.stream, c.status_of.ensures))))
