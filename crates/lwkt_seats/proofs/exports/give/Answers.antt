use Rattle.std.proofs.Common.{refl}
use Rattle.std.specs.Prelude.{Some}
use Rattle.lwkt_seats.specs.Calls.{GivesOneBack}
use Rattle.lwkt_seats.proofs.Answering.{holds_slot, goes_back, answers}
use Rattle.lwkt_seats.proofs.exports.give.Goals as goal

pub slot_mut-requires : goal.slot_mut-requires
slot_mut-requires c = (c.requires.1, holds_slot c.args.desk.now.places.shared.key c.args.seat c.args.hand.me c.requires.2)

pub put_back-requires : goal.put_back-requires
put_back-requires c =
    goes_back c.args.desk.now c.args.seat c.args.hand c.requires c.slot_mut.result.now c.slot_mut.ensures.value c.in-Some.sitter c.in-Some.is
    c.deref_mut.result.now c.deref_mut.ensures.value c.give-answer.new.self c.give-answer.ensures.same

pub returns : goal.returns
returns c =
    answers c.args.desk.now c.args.seat c.args.hand c.requires c.slot_mut.result.now c.slot_mut.ensures.value c.in-Some.sitter c.in-Some.is
    c.deref_mut.result.now c.deref_mut.ensures.value c.give-answer.new.self c.give-answer.ensures.same (Some c.args.desk.now) (GivesOneBack c.args.token) c.number.result refl (c.give-answer.result, (c.number.ensures, c.give-answer.ensures.does))
