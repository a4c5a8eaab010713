use Rattle.lwkt_checker.proofs.LineJudging.{first_lifts, first_refused_lifts, further_lifts, further_refused_lifts}
use Rattle.lwkt_checker.proofs.line_judges.with_next.Goals as goal

pub returns-in-None-clause-stated : goal.returns-in-None-clause-stated
returns-in-None-clause-stated c = first_lifts c.opened_by.result c.args.judge c.args.line.now c.in-None.is c.opened_by.ensures.stated

pub returns-in-None-clause-refused : goal.returns-in-None-clause-refused
returns-in-None-clause-refused c = first_refused_lifts c.opened_by.result c.args.judge c.args.line.now c.in-None.is c.opened_by.ensures.refused

pub returns-in-Some-clause-stated : goal.returns-in-Some-clause-stated
returns-in-Some-clause-stated c = further_lifts c.with_line.result c.args.judge c.in-Some.judge c.args.line.now c.in-Some.is c.with_line.ensures.stated

pub returns-in-Some-clause-refused : goal.returns-in-Some-clause-refused
returns-in-Some-clause-refused c = further_refused_lifts c.with_line.result c.args.judge c.in-Some.judge c.args.line.now c.in-Some.is c.with_line.ensures.refused
