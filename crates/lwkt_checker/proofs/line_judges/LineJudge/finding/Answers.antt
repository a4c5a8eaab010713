use Rattle.lwkt_checker.proofs.LineJudging.{none_declines, found_lifts, declines_lifts}
use Rattle.lwkt_checker.proofs.line_judges.LineJudge.finding.Goals as goal

pub returns-in-None-clause-refused : goal.returns-in-None-clause-refused
returns-in-None-clause-refused c = none_declines c.args.self.judge c.in-None.is

pub returns-in-Some-clause-found : goal.returns-in-Some-clause-found
returns-in-Some-clause-found c = found_lifts c.finding.result c.args.self.judge c.in-Some.judge c.in-Some.is c.finding.ensures.found

pub returns-in-Some-clause-refused : goal.returns-in-Some-clause-refused
returns-in-Some-clause-refused c = declines_lifts c.finding.result c.args.self.judge c.in-Some.judge c.in-Some.is c.finding.ensures.refused
