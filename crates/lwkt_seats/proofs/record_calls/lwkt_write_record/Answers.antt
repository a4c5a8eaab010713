use Rattle.lwkt_seats.specs.Calls.{WritesRecord}
use Rattle.lwkt_seats.proofs.Answering.{holds_slot, goes_back, answers}
use Rattle.lwkt_seats.proofs.record_calls.lwkt_write_record.Goals as goal

pub slot_mut-requires : goal.slot_mut-requires
slot_mut-requires c = (c.in-Ok.ensures.seat.1, holds_slot c.in-Ok.found.0.now.places.shared.key c.args.seat c.in-Ok.found.1.me c.in-Ok.ensures.seat.2)

pub put_back-requires : goal.put_back-requires
put_back-requires c =
    goes_back c.in-Ok.found.0.now c.args.seat c.in-Ok.found.1 c.in-Ok.ensures.seat c.slot_mut.result.now c.slot_mut.ensures.value c.in-Some.sitter c.in-Some.is
    c.deref_mut.result.now c.deref_mut.ensures.value c.write-answer.new.self c.write-answer.ensures.same

pub returns : goal.returns
returns c =
    answers c.in-Ok.found.0.now c.args.seat c.in-Ok.found.1 c.in-Ok.ensures.seat c.slot_mut.result.now c.slot_mut.ensures.value c.in-Some.sitter c.in-Some.is
    c.deref_mut.result.now c.deref_mut.ensures.value c.write-answer.new.self c.write-answer.ensures.same c.args.bank.desk (WritesRecord c.args.token c.args.bytes.now) c.number.result c.in-Ok.ensures.ok (c.write-answer.result, (c.number.ensures, c.write-answer.ensures.does))
