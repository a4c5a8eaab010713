use Rattle.std.proofs.Common.{arith}
use Rattle.serde_json.specs.View.{view}
use Rattle.lwkt_trace.proofs.TraceTexts.{text_read, text_refused, read_some}
use Rattle.lwkt_trace.proofs.readers.read_trace.Goals as goal

pub returns-in-Ok-clause-exact : goal.returns-in-Ok-clause-exact
returns-in-Ok-clause-exact c =
    let is = rw c.in-Ok.is at c.in_ok-value.ensures.value in
    rw (text_read c.args.bytes.now (view c.in-Ok.value) (omega arith) is.0 is.1) c.trace.ensures

pub returns-in-Ok-clause-memory : goal.returns-in-Ok-clause-memory
returns-in-Ok-clause-memory c = λ _.
    let is = rw c.in-Ok.is at c.in_ok-value.ensures.value in
    (read_some c.args.bytes.now (view c.in-Ok.value) is.1, omega arith)

pub returns-in-Err-clause-exact : goal.returns-in-Err-clause-exact
returns-in-Err-clause-exact c = text_refused c.args.bytes.now (omega arith) (rw c.in-Err.is at c.in_ok-value.ensures.none)
