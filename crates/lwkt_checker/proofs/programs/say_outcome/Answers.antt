use Rattle.lwkt_checker.proofs.Reporting.{complains}
use Rattle.lwkt_checker.proofs.programs.say_outcome.Goals as goal

pub returns-in-Err : goal.returns-in-Err
returns-in-Err g c =
    complains (g.E.Sink.has_failed c.complain.new.sink) (g.E.Sink.contents c.args.errors.now) (g.E.Sink.contents c.complain.new.sink) c.args.outcome.now c.in-Err.fault c.complaint_of.result
    c.in-Err.is c.complaint_of.ensures c.complain.ensures.said
