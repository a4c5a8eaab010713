use Rattle.std.proofs.Common.{◌≡◌, ◌<◌, List, length, length-set, get_or, take, ◌+◌, refl, sym, ◌∙◌, subst, arith, Some}
use Rattle.std.specs.Prelude.{slice_get}
use Rattle.std.proofs.lemmas.List.{take_all}
use Rattle.std.proofs.lemmas.Option.{slice_get-get_or}
use Rattle.lwkt_cpu.specs.Processors.{Processor}
use Rattle.lwkt_drive.specs.declared.driven.Driven.{Driven}
use Rattle.lwkt_lane.proofs.PlaceMoves.{get_set_other, some_same}
use Rattle.lwkt_machine.specs.Machines.{processors}
use Rattle.lwkt_machine.specs.Sights.{KeepsLog, SeesEach}
use Rattle.lwkt_machine.proofs.DrivenMoves.{logs_none, logs_set, long_processors, processor_at, processors_set}
use Rattle.lwkt_machine.proofs.SightMoves.{each_next, still_joined}
use Rattle.lwkt_machine.proofs.sights.see_each.Goals as goal

pub loop-at-init : goal.loop-at-init
loop-at-init g c = record {
  as_many = refl;
  sees = refl;
  logs = logs_none c.args.others.now;
  rest = λ k less. refl;
}

pub see-requires : goal.see-requires
see-requires g c =
    let l = c.loop-at in
    let d = c.index-others-at.result in
    let within : l.at < length l.others = omega (arith, c.loop-at-test.true, l.auto.others) in
    let s : Driven g.row.B.Denot = get_or l.others l.at d in
    let olds : List (Processor g.row.B.Denot) = processors c.args.others.now in
    let at : slice_get c.args.others.now l.at ≡ Some s = sym (l.invariant.rest l.at (omega arith)) ∙ slice_get-get_or l.others l.at d within in
    still_joined c.args.cpu.now l.cpu (take l.at olds) (take l.at (processors l.others)) olds l.invariant.sees c.requires l.at s.cpu (processor_at c.args.others.now l.at s at)

pub loop-at-preserved : goal.loop-at-preserved
loop-at-preserved g c =
    let l = c.loop-at in
    let d = c.index-others-at.result in
    let within : l.at < length l.others = omega (arith, c.loop-at-test.true, l.auto.others) in
    let s : Driven g.row.B.Denot = get_or l.others l.at d in
    let s' = c.see.new.sender in
    let e : Driven g.row.B.Denot = record s { cpu = s' } in
    let olds : List (Processor g.row.B.Denot) = processors c.args.others.now in
    let mids : List (Processor g.row.B.Denot) = processors l.others in
    let here : slice_get l.others l.at ≡ Some s = slice_get-get_or l.others l.at d within in
    let at : slice_get c.args.others.now l.at ≡ Some s = sym (l.invariant.rest l.at (omega arith)) ∙ here in
    let there : l.at < length mids = omega (arith, within, long_processors l.others) in
    let F : List (Processor g.row.B.Denot) → Type 0 = λ xs. SeesEach c.args.cpu.now c.see.new.self (take (l.at + 1) olds) (take (l.at + 1) xs) in
    record {
      as_many = length-set l.others l.at e ∙ l.invariant.as_many;
      sees = subst F (sym (processors_set l.others l.at e)) (each_next c.args.cpu.now l.cpu c.see.new.self s.cpu s' olds mids l.at there (processor_at c.args.others.now l.at s at) l.invariant.sees c.see.ensures.sees);
      logs = logs_set c.args.others.now l.others l.at s s' here l.invariant.logs (λ x was. (let F : Driven g.row.B.Denot → Type 0 = λ y. KeepsLog y s in subst F (some_same s x (slice_get c.args.others.now l.at) at was) refl));
      rest = λ k less. get_set_other l.others l.at k e (λ same. omega (arith, same, less)) ∙ l.invariant.rest k (omega (arith, less));
    }

pub returns-clause-sees : goal.returns-clause-sees
returns-clause-sees g c =
    let l = c.loop-at in
    let olds : List (Processor g.row.B.Denot) = processors c.args.others.now in
    let news : List (Processor g.row.B.Denot) = processors l.others in
    let F : List (Processor g.row.B.Denot) × List (Processor g.row.B.Denot) → Type 0 = λ x. SeesEach c.args.cpu.now l.cpu x.0 x.1 in
    let old : take l.at olds ≡ olds = take_all l.at olds (omega (arith, c.loop-at-test.false, l.auto.others, l.invariant.as_many, long_processors c.args.others.now)) in
    let new : take l.at news ≡ news = take_all l.at news (omega (arith, c.loop-at-test.false, l.auto.others, long_processors l.others)) in
    subst F (λ k. (old k, new k)) l.invariant.sees
