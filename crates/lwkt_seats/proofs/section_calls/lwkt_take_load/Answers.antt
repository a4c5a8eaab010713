use Rattle.lwkt_seats.specs.Calls.{TakesAndLoads}
use Rattle.lwkt_seats.proofs.Answering.{holds_slot, goes_back, answers}
use Rattle.lwkt_seats.proofs.section_calls.lwkt_take_load.Goals as goal

pub slot_mut-requires : goal.slot_mut-requires
slot_mut-requires c = (c.in-Ok.ensures.seat.1, holds_slot c.in-Ok.found.0.now.places.shared.key c.args.seat c.in-Ok.found.1.me c.in-Ok.ensures.seat.2)

pub put_back-requires : goal.put_back-requires
put_back-requires c =
    goes_back c.in-Ok.found.0.now c.args.seat c.in-Ok.found.1 c.in-Ok.ensures.seat c.slot_mut.result.now c.slot_mut.ensures.value c.in-Some.sitter c.in-Some.is
    c.deref_mut.result.now c.deref_mut.ensures.value c.take_load-answer.new.self c.take_load-answer.ensures.same

pub returns-clause-does : goal.returns-clause-does
returns-clause-does c =
    answers c.in-Ok.found.0.now c.args.seat c.in-Ok.found.1 c.in-Ok.ensures.seat c.slot_mut.result.now c.slot_mut.ensures.value c.in-Some.sitter c.in-Some.is
    c.deref_mut.result.now c.deref_mut.ensures.value c.take_load-answer.new.self c.take_load-answer.ensures.same c.args.bank.desk (TakesAndLoads c.args.token c.args.cell c.args.value.now c.take_load-answer.new.value) c.take_load-answer.result c.in-Ok.ensures.ok c.take_load-answer.ensures.does
