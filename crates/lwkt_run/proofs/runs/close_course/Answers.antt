use Rattle.std.proofs.Common.{None}
use Rattle.lwkt_run.proofs.CheckedMoves.{closes_by}
use Rattle.lwkt_run.proofs.runs.close_course.Goals as goal

pub returns-clause-closes : goal.returns-clause-closes
returns-clause-closes c =
    let run = c.in_ok-left.field-0 in
    closes_by c.args.course c.args.script.now None run.left run.stops.items run.verdict c.in_ok-closing_of.field-0 c.requires c.in_ok-left.ensures.leaves c.in_ok-closing_of.ensures
