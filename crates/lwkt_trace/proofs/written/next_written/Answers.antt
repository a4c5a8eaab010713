use Rattle.std.proofs.Common.{rules}
use Rattle.lwkt_trace.proofs.NextTexts.{cut, next_is}
use Rattle.lwkt_trace.proofs.written.next_written.Goals as goal

pub returns : goal.returns
returns c =
    next_is c.args.text.now c.break_before-before.result.now c.in_ok-first.first.now c.in_ok-first.behind.now c.in_ok-line.line.now c.in_ok-line.field-0-1.now c.args.number c.in_ok-event.event
    (cut c.args.text.now c.in_ok-first.first.now c.in_ok-first.behind.now _ c.in_ok-first.ensures.cases) (cut c.in_ok-first.behind.now c.in_ok-line.line.now c.in_ok-line.field-0-1.now _ c.in_ok-line.ensures.cases)
    (search rules) c.break_before-before.ensures c.in_ok-event.ensures
