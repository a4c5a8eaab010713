use Rattle.std.proofs.Common.{◌⊎◌, inl, inr, sym, subst}
use Rattle.lwkt_base.specs.declared.faults.Fault.{Fault}
use Rattle.lwkt_base.specs.declared.names.CpuId.{CpuId}
use Rattle.lwkt_base.specs.declared.records.Rec.{Rec}
use Rattle.lwkt_msg.specs.Hands.{IsOwn}
use Rattle.lwkt_msg.specs.Plays.{IsSat}
use Rattle.lwkt_msg.specs.Calls.{HasDropped, IsUndropped, HasLostDrop}
use Rattle.lwkt_msg.proofs.Withdrawing.{passed_on, undropped, drop_ready, drop_done, drop_lost}
use Rattle.lwkt_msg.proofs.calls.drop_msg.Goals as goal

pub returns-in_err-may_drop-clause-sat : goal.returns-in_err-may_drop-clause-sat
returns-in_err-may_drop-clause-sat c = c.parts-found.ensures.sat c.args.cpu c.requires.sat

pub returns-in_err-may_drop-clause-answer : goal.returns-in_err-may_drop-clause-answer
returns-in_err-may_drop-clause-answer c =
    let P : Rec → Type 0 = λ rec. HasDropped c.args.cpu c.args.place.now.me.0 c.parts-found.new.place.me.0 c.args.m rec in
    let Q : Fault → Type 0 = λ fault. IsUndropped c.args.cpu c.args.place.now.me.0 c.parts-found.new.place.me.0 c.args.m fault ⊎ HasLostDrop c.args.cpu c.args.place.now.me.0 c.parts-found.new.place.me.0 c.args.m fault in
    passed_on c.from_residual.result c.in_err-may_drop.field-0.0 P Q c.from_residual.ensures.1 (inl (undropped c.args.place.now c.parts-found.new.place c.args.cpu c.args.m c.parts-found.result.1 c.requires.sat c.parts-found.ensures.looked c.in_err-may_drop.field-0.0 c.in_err-may_drop.ensures))

pub recall-requires-clause-sat : goal.recall-requires-clause-sat
recall-requires-clause-sat c =
    let F : CpuId → Type 0 = λ x. IsSat x c.parts-found.new.place in
    subst F (sym c.in_ok-may_drop.ensures.0) (c.parts-found.ensures.sat c.args.cpu c.requires.sat)

pub recall-requires-clause-own : goal.recall-requires-clause-own
recall-requires-clause-own c =
    let ready = drop_ready c.args.place.now c.parts-found.new.place c.args.cpu c.args.m c.parts-found.result.1 c.requires.sat c.parts-found.ensures.looked c.requires.exists c.in_ok-may_drop.ensures in
    let F : CpuId → Type 0 = λ x. IsOwn c.parts-found.new.place.me.0 x.0 c.args.m in
    (subst F (sym c.in_ok-may_drop.ensures.0) ready.0, ready.1, ready.2, ready.3, ready.4)

pub returns-in-Some-clause-answer : goal.returns-in-Some-clause-answer
returns-in-Some-clause-answer c =
    drop_done c.args.place.now c.parts-found.new.place c.args.cpu c.args.m c.parts-found.result.1 c.requires.sat c.parts-found.ensures.looked c.rest.result c.in-Some.rec c.recall.new.place.me.0 c.in_ok-may_drop.ensures c.rest.ensures c.in-Some.ensures.view

pub returns-in-None-clause-answer : goal.returns-in-None-clause-answer
returns-in-None-clause-answer c =
    inr (drop_lost c.args.place.now c.parts-found.new.place c.args.cpu c.args.m c.parts-found.result.1 c.requires.sat c.parts-found.ensures.looked c.rest.result c.recall.new.place.me.0 c.in_ok-may_drop.ensures c.rest.ensures c.in-None.ensures.view)
