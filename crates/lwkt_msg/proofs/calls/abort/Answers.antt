use Rattle.lwkt_base.specs.declared.faults.Fault.{Fault}
use Rattle.lwkt_msg.specs.Calls.{HasRequested, IsUnrequested}
use Rattle.lwkt_msg.proofs.Withdrawing.{passed_on, unrequested, request_ready, request_done}
use Rattle.lwkt_msg.proofs.calls.abort.Goals as goal

pub returns-in_err-may_abort-clause-sat : goal.returns-in_err-may_abort-clause-sat
returns-in_err-may_abort-clause-sat c = c.parts.ensures.sat c.args.cpu c.requires.sat

pub returns-in_err-may_abort-clause-answer : goal.returns-in_err-may_abort-clause-answer
returns-in_err-may_abort-clause-answer c =
    let P : Unit {0} → Type 0 = λ _. HasRequested c.args.cpu c.args.place.now.me.0 c.parts.new.place.me.0 c.args.m in
    let Q : Fault → Type 0 = λ fault. IsUnrequested c.args.cpu c.args.place.now.me.0 c.parts.new.place.me.0 c.args.m fault in
    passed_on c.from_residual.result c.in_err-may_abort.field-0.0 P Q c.from_residual.ensures.1 (unrequested c.args.place.now c.parts.new.place c.args.cpu c.args.m c.parts.result.1 c.requires.sat c.parts.ensures.looked c.in_err-may_abort.field-0.0 c.in_err-may_abort.ensures)

pub request-requires-clause-sat : goal.request-requires-clause-sat
request-requires-clause-sat c = c.parts.ensures.sat c.args.cpu c.requires.sat

pub request-requires-clause-own : goal.request-requires-clause-own
request-requires-clause-own c = request_ready c.args.place.now c.parts.new.place c.args.cpu c.args.m c.parts.result.1 c.requires.sat c.parts.ensures.looked c.in_ok-may_abort.ensures

pub returns-clause-answer : goal.returns-clause-answer
returns-clause-answer c = request_done c.args.place.now c.parts.new.place c.args.cpu c.args.m c.parts.result.1 c.requires.sat c.parts.ensures.looked c.request.new.place.me.0 c.in_ok-may_abort.ensures c.request.ensures.view
