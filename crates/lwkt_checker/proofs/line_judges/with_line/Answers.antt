use Rattle.std.proofs.Common.{Some, ap, sym, ◌∙◌}
use Rattle.lwkt_trace.specs.declared.traces.Stated.{Stated}
use Rattle.lwkt_trace.specs.Readback.{event_data}
use Rattle.lwkt_trace.proofs.EventData.{events_read_back}
use Rattle.lwkt_checker.specs.LineFormat.{with_event}
use Rattle.lwkt_checker.proofs.LineJudging.{line_closed, written_line, stated_lifts, refused_lifts, given_lifts, given_refused_lifts}
use Rattle.lwkt_checker.proofs.line_judges.with_line.Goals as goal

pub returns-then-judge-clause-refused : goal.returns-then-judge-clause-refused
returns-then-judge-clause-refused c = λ trace knows. line_closed trace c.args.line.now (sym knows.closed ∙ c.if-judge.true)

pub returns-in-Some-clause-stated : goal.returns-in-Some-clause-stated
returns-in-Some-clause-stated c =
    let e = c.in-Some.event in
    let d = event_data e in
    let stated : Stated = c.stated_alone.result in
    stated_lifts c.with_stated.result c.args.judge (λ t. with_event t d) c.args.line.now
    (λ trace knows. written_line trace c.args.line.now e (sym knows.closed ∙ c.if-judge.false) c.in-Some.ensures)
    (given_lifts c.with_stated.result c.args.judge stated d (events_read_back e c.in-Some.ensures.writable ∙ ap Some (sym c.stated_alone.ensures)) c.with_stated.ensures.stated)

pub returns-in-Some-clause-refused : goal.returns-in-Some-clause-refused
returns-in-Some-clause-refused c =
    let e = c.in-Some.event in
    let d = event_data e in
    let stated : Stated = c.stated_alone.result in
    refused_lifts c.with_stated.result c.args.judge (λ t. with_event t d) c.args.line.now
    (λ trace knows. written_line trace c.args.line.now e (sym knows.closed ∙ c.if-judge.false) c.in-Some.ensures)
    (given_refused_lifts c.with_stated.result c.args.judge stated d (events_read_back e c.in-Some.ensures.writable ∙ ap Some (sym c.stated_alone.ensures)) c.with_stated.ensures.refused)
