use Rattle.std.proofs.Common.{Some}
use Rattle.lwkt_checker.proofs.line_judges.LineJudge.feed.Goals as goal

pub returns-in-Ok-clause-stated : goal.returns-in-Ok-clause-stated
returns-in-Ok-clause-stated c = λ before judged. let took = c.in-Ok.ensures.stated before judged in (Some took.0, (took.1.0, took.1.1))
