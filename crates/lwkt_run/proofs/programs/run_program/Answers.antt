use Rattle.lwkt_run.proofs.ThreadedLemmas.{asks_one, still_failed}
use Rattle.lwkt_run.proofs.programs.run_program.Goals as goal

pub returns-then-asks_turns-clause-turns : goal.returns-then-asks_turns-clause-turns
returns-then-asks_turns-clause-turns g c = λ asks.
    (c.run_turns-outcome.result, (g.K.Sink.contents c.run_turns-outcome.new.sink, (c.run_turns-outcome.ensures.reports, (c.finish.ensures.line, (still_failed (g.S.Source.has_failed c.run_turns-outcome.new.source) (g.K.Sink.has_failed c.run_turns-outcome.new.sink) (g.K.Sink.has_failed c.finish.new.sink) c.run_turns-outcome.result c.run_turns-outcome.ensures.stream c.finish.ensures.failed, c.finish.ensures.status)))))

pub returns-then-asks_turns-clause-threads : goal.returns-then-asks_turns-clause-threads
returns-then-asks_turns-clause-threads g c = λ asks. absurd (asks_one c.args.words.now (c.asks_turns.ensures.0 c.if-asks_turns.true) asks)

pub returns-then-asks_threads-clause-threads : goal.returns-then-asks_threads-clause-threads
returns-then-asks_threads-clause-threads g c = λ asks.
    (c.run_threads-outcome.result, (g.K.Sink.contents c.run_threads-outcome.new.sink, (c.run_threads-outcome.ensures.reports, (c.finish-then-asks_threads.ensures.line, (still_failed (g.S.Source.has_failed c.run_threads-outcome.new.source) (g.K.Sink.has_failed c.run_threads-outcome.new.sink) (g.K.Sink.has_failed c.finish-then-asks_threads.new.sink) c.run_threads-outcome.result c.run_threads-outcome.ensures.stream c.finish-then-asks_threads.ensures.failed, c.finish-then-asks_threads.ensures.status)))))
