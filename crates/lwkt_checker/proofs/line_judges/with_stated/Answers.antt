use Rattle.std.proofs.Common.{◌≡◌, ◌<◌, length, arith}
use Rattle.lwkt_checker.specs.Stages.{with_stated}
use Rattle.lwkt_checker.proofs.LineJudging.{event_taken}
use Rattle.lwkt_checker.proofs.line_judges.with_stated.Goals as goal

pub returns-in-Ok-clause-stated : goal.returns-in-Ok-clause-stated
returns-in-Ok-clause-stated c = λ trace d knows is.
    let same : c.args.judge.count ≡ length trace.events = knows.counted in
    let below : c.args.judge.count < 1000000000000000 = c.if-judge-ge-EVENT_LIMIT.false in
    let room : length trace.events < 1000000000000000 = omega arith in
    (with_stated trace c.args.stated.now, (event_taken trace d c.args.stated.now room is, c.in-Ok.ensures.knows trace knows))
