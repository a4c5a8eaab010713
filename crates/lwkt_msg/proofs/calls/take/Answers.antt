use Rattle.std.proofs.Common.{refl, sym, subst}
use Rattle.lwkt_base.specs.declared.names.CpuId.{CpuId}
use Rattle.lwkt_msg.specs.Hands.{IsInHand}
use Rattle.lwkt_msg.specs.Plays.{IsSat}
use Rattle.lwkt_msg.proofs.Moves.{never}
use Rattle.lwkt_msg.proofs.Calling.{only, take_new, take_done, take_lost}
use Rattle.lwkt_msg.proofs.calls.take.Goals as goal

pub returns-then-not-is_for_taking-clause-sat : goal.returns-then-not-is_for_taking-clause-sat
returns-then-not-is_for_taking-clause-sat c = c.parts-found.ensures.sat c.args.cpu c.requires.sat

pub returns-then-not-is_for_taking-clause-answer : goal.returns-then-not-is_for_taking-clause-answer
returns-then-not-is_for_taking-clause-answer c = record {
  found = c.parts-found.result.1;
  looked_at = only c.args.place.now c.parts-found.new.place c.args.cpu c.args.m c.parts-found.result.1 c.requires.sat c.parts-found.ensures.looked;
  why = λ h. never (c.if-not-is_for_taking.ensures.1 h);
}

pub win-requires-clause-sat : goal.win-requires-clause-sat
win-requires-clause-sat c =
    let F : CpuId → Type 0 = λ x. IsSat x c.parts-found.new.place in
    subst F (sym (c.if-not-is_for_taking.ensures.0 refl).1) (c.parts-found.ensures.sat c.args.cpu c.requires.sat)

pub win-requires-clause-new : goal.win-requires-clause-new
win-requires-clause-new c =
    let is = c.if-not-is_for_taking.ensures.0 refl in
    let F : CpuId → Type 0 = λ x. IsInHand c.parts-found.new.place.me.0 x.0 c.args.m → ⊥ in
    subst F (sym is.1) (take_new c.args.place.now c.parts-found.new.place c.args.cpu c.args.m c.parts-found.result.1 c.requires.sat c.parts-found.ensures.looked is.0)

pub returns-in-Some-clause-answer : goal.returns-in-Some-clause-answer
returns-in-Some-clause-answer c =
    take_done c.args.place.now c.parts-found.new.place c.args.cpu c.args.m c.parts-found.result.1 c.requires.sat c.parts-found.ensures.looked c.args.round c.in-Some.rec c.win.new.place.me.0
    (c.if-not-is_for_taking.ensures.0 refl) c.in-Some.ensures.view

pub returns-in-None-clause-answer : goal.returns-in-None-clause-answer
returns-in-None-clause-answer c =
    take_lost c.args.place.now c.parts-found.new.place c.args.cpu c.args.m c.parts-found.result.1 c.requires.sat c.parts-found.ensures.looked c.args.round c.parts-found.result.0 c.win.new.place.me.0
    (c.if-not-is_for_taking.ensures.0 refl) c.parts-found.ensures.word c.in-None.ensures.view
