use Rattle.serde_json.specs.View.{view}
use Rattle.lwkt_checker.specs.Stages.{with_last}
use Rattle.lwkt_checker.proofs.LineJudging.{closing_taken}
use Rattle.lwkt_checker.proofs.line_judges.with_closing.Goals as goal

pub returns-in-Ok-clause-stated : goal.returns-in-Ok-clause-stated
returns-in-Ok-clause-stated c = λ trace knows.
    let closing = c.in_ok-closing.closing in
    (with_last trace closing, (closing_taken trace (view c.args.value.now) closing c.in_ok-closing.ensures, c.in-Ok.ensures.knows trace knows))
