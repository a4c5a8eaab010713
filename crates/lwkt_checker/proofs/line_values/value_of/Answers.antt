use Rattle.std.proofs.Common.{sym, arith}
use Rattle.serde_json.specs.View.{view}
use Rattle.lwkt_checker.proofs.LineLemmas.{value_read, value_unread}
use Rattle.lwkt_checker.proofs.line_values.value_of.Goals as goal

pub returns-in-Ok : goal.returns-in-Ok
returns-in-Ok c =
    let is = rw c.in-Ok.is at c.in_ok-value.ensures.value in
    sym (value_read c.args.line.now (view c.in-Ok.value) (omega arith) is.0 is.1)

pub returns-in-Err : goal.returns-in-Err
returns-in-Err c = sym (value_unread c.args.line.now (omega arith) (rw c.in-Err.is at c.in_ok-value.ensures.none))
