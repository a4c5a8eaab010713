use Rattle.lwkt_checker.specs.LineReading.{left_of}
use Rattle.lwkt_checker.proofs.FedLines.{reports_lined}
use Rattle.lwkt_checker.proofs.line_checks.check_lines.Goals as goal

pub returns-clause-reports : goal.returns-clause-reports
returns-clause-reports g c =
    reports_lined (left_of c.args.lines.now (g.S.Source.left c.args.source.now)) (g.K.Sink.contents c.args.sink.now) (g.K.Sink.contents c.write_finding.new.sink) c.in_ok-finding.finding c.write_finding.result
    c.in_ok-finding.ensures.found c.write_finding.ensures.writes
