use Rattle.lwkt_seats.proofs.BriefMoves.{read_short}
use Rattle.lwkt_seats.specs.Calls.{ReadsTheRecord}
use Rattle.lwkt_seats.proofs.Answering.{holds_slot, goes_back, answers}
use Rattle.lwkt_seats.proofs.record_calls.lwkt_read_record.Goals as goal

pub slot_mut-requires : goal.slot_mut-requires
slot_mut-requires c = (c.in-Ok.ensures.seat.1, holds_slot c.in-Ok.found.0.now.places.shared.key c.args.seat c.in-Ok.found.1.me c.in-Ok.ensures.seat.2)

pub put_back-requires : goal.put_back-requires
put_back-requires c =
    goes_back c.in-Ok.found.0.now c.args.seat c.in-Ok.found.1 c.in-Ok.ensures.seat c.slot_mut.result.now c.slot_mut.ensures.value c.in-Some.sitter c.in-Some.is
    c.deref_mut.result.now c.deref_mut.ensures.value c.read-answer.new.self c.read-answer.ensures.same

pub returns-clause-does : goal.returns-clause-does
returns-clause-does c =
    answers c.in-Ok.found.0.now c.args.seat c.in-Ok.found.1 c.in-Ok.ensures.seat c.slot_mut.result.now c.slot_mut.ensures.value c.in-Some.sitter c.in-Some.is
    c.deref_mut.result.now c.deref_mut.ensures.value c.read-answer.new.self c.read-answer.ensures.same c.args.bank.desk (ReadsTheRecord c.args.token c.args.buffer.now c.put_record.new.buffer c.args.length.now c.put_record.new.length) c.put_record.result c.in-Ok.ensures.ok (c.read-answer.result, (c.put_record.ensures.is, c.read-answer.ensures.does, c.put_record.ensures.put))

pub returns-clause-short : goal.returns-clause-short
returns-clause-short c =
    read_short c.args.token c.deref_mut.result.now.seat c.read-answer.new.self.seat c.read-answer.result c.args.buffer.now c.put_record.new.buffer c.args.length.now c.put_record.new.length c.put_record.result
    c.deref_mut.result.now.brief c.read-answer.ensures.does c.put_record.ensures.put c.put_record.ensures.is
