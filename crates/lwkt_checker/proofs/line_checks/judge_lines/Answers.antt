use Rattle.lwkt_checker.specs.LineReading.{left_of}
use Rattle.lwkt_checker.proofs.FedLines.{finds, declares}
use Rattle.lwkt_checker.proofs.line_checks.judge_lines.Goals as goal

pub returns-in-Ok-clause-found : goal.returns-in-Ok-clause-found
returns-in-Ok-clause-found g c =
    finds (left_of c.args.lines.now (g.S.Source.left c.args.source.now)) c.in_ok-feed_lines.field-0 c.in-Ok.finding c.in_ok-feed_lines.ensures.stated c.in-Ok.ensures.found

pub returns-in-Err-clause-refused : goal.returns-in-Err-clause-refused
returns-in-Err-clause-refused g c =
    declares (left_of c.args.lines.now (g.S.Source.left c.args.source.now)) c.in_ok-feed_lines.field-0 c.in-Err.fault c.in_ok-feed_lines.ensures.stated c.in-Err.ensures.refused
