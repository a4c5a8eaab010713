use Rattle.std.proofs.Common.{sym}
use Rattle.serde_json.specs.View.{view}
use Rattle.lwkt_checker.proofs.LineJudging.{given_lifts, given_refused_lifts}
use Rattle.lwkt_checker.proofs.line_judges.with_event.Goals as goal

pub returns-in-Some-clause-stated : goal.returns-in-Some-clause-stated
returns-in-Some-clause-stated c = given_lifts c.with_stated.result c.args.judge c.in-Some.stated (view c.args.value.now) (sym c.in-Some.ensures) c.with_stated.ensures.stated

pub returns-in-Some-clause-refused : goal.returns-in-Some-clause-refused
returns-in-Some-clause-refused c = given_refused_lifts c.with_stated.result c.args.judge c.in-Some.stated (view c.args.value.now) (sym c.in-Some.ensures) c.with_stated.ensures.refused
