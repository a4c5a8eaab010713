use Rattle.std.proofs.Common.{refl, sym, subst}
use Rattle.std.specs.Prelude.{Option}
use Rattle.lwkt_seats.specs.declared.answers.GaveBack.TheVariants.{Given}
use Rattle.lwkt_seats.specs.declared.desks.Desk.{Desk}
use Rattle.lwkt_seats.specs.Calls.{GivesOneBack}
use Rattle.lwkt_seats.specs.Desks.{IsDeskAnswer}
use Rattle.lwkt_seats.proofs.Answering.{holds_slot, goes_back, answers}
use Rattle.lwkt_seats.proofs.exports.lwkt_give.Goals as goal

pub slot_mut-requires : goal.slot_mut-requires
slot_mut-requires c = (c.in-Ok.ensures.seat.1, holds_slot c.in-Ok.found.0.now.places.shared.key c.args.seat c.in-Ok.found.1.me c.in-Ok.ensures.seat.2)

pub give-requires : goal.give-requires
give-requires c =
    goes_back c.in-Ok.found.0.now c.args.seat c.in-Ok.found.1 c.in-Ok.ensures.seat c.slot_mut.result.now c.slot_mut.ensures.value c.in-Some.sitter c.in-Some.is
    c.deref_mut.result.now c.deref_mut.ensures.value c.give_quietly.new.self c.give_quietly.ensures.same

pub put_back-requires : goal.put_back-requires
put_back-requires c =
    goes_back c.in-Ok.found.0.now c.args.seat c.in-Ok.found.1 c.in-Ok.ensures.seat c.slot_mut.result.now c.slot_mut.ensures.value c.in-Some.sitter c.in-Some.is
    c.deref_mut.result.now c.deref_mut.ensures.value c.give_quietly.new.self c.give_quietly.ensures.same

pub returns-then-not-give_quietly : goal.returns-then-not-give_quietly
returns-then-not-give_quietly c =
    let F : Option Desk → Type 0 = λ bank. IsDeskAnswer bank c.args.seat (GivesOneBack c.args.token) c.give.result in
    subst F (sym c.in-Ok.ensures.ok) c.give.ensures

pub returns : goal.returns
returns c =
    answers c.in-Ok.found.0.now c.args.seat c.in-Ok.found.1 c.in-Ok.ensures.seat c.slot_mut.result.now c.slot_mut.ensures.value c.in-Some.sitter c.in-Some.is
    c.deref_mut.result.now c.deref_mut.ensures.value c.give_quietly.new.self c.give_quietly.ensures.same c.args.bank.desk (GivesOneBack c.args.token) 0 c.in-Ok.ensures.ok
    (Given, (refl, c.give_quietly.ensures.gives c.if-not-give_quietly.false))
