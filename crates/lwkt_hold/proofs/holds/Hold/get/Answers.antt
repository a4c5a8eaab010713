use Rattle.std.proofs.Common.{◌≡◌, ◌∙◌, ap, Err, [], ◌∷◌, ◌++◌, length, arith, rules}
use Rattle.std.specs.Prelude.{Vec}
use Rattle.std.specs.declared.alloc.Global.{Global}
use Rattle.lwkt_base.specs.Holding.{Holding, holding_of}
use Rattle.lwkt_base.specs.declared.names.CpuId.{CpuId}
use Rattle.lwkt_bank.specs.Seats.{holding}
use Rattle.lwkt_core.specs.declared.events.Event.{Event}
use Rattle.lwkt_core.specs.declared.events.Event.TheVariants.{Mark}
use Rattle.lwkt_hold.specs.declared.answers.Missed.TheVariants.{Worn}
use Rattle.lwkt_hold.specs.Fronts.{IsFront}
use Rattle.lwkt_hold.proofs.RunMoves.{ran_none, ran_then, ran_weaker}
use Rattle.lwkt_hold.proofs.ReadMoves.{whole_front}
use Rattle.lwkt_hold.proofs.LastMoves.{ran_silent, front_of_push, lost_as, marks_by}
use Rattle.lwkt_hold.proofs.ListMoves.{misses_between}
use Rattle.lwkt_hold.proofs.OutcomeMoves.{same_rows_then}
use Rattle.lwkt_hold.proofs.holds.Hold.get.Goals as goal

pub returns-in-Err-Worn-clause-err : goal.returns-in-Err-Worn-clause-err
returns-in-Err-Worn-clause-err c =
    let m = c.in_ok-push_and_take.ensures.missed Worn (lost_as c.in_ok-push_and_take.field-0 Worn (c.in-Err-Worn.is ∙ ap Err c.in-Err-Worn.field-0-is)) in
    (c.take_off.ensures c.args.list.now c.in_ok-push_and_take.ensures.pushed, m.1)

pub returns-in-Err-Worn-clause-ran : goal.returns-in-Err-Worn-clause-ran
returns-in-Err-Worn-clause-ran c =
    let p = c.push_and_take in
    let m = c.in_ok-push_and_take.ensures.missed Worn (lost_as c.in_ok-push_and_take.field-0 Worn (c.in-Err-Worn.is ∙ ap Err c.in-Err-Worn.field-0-is)) in
    ran_silent (IsFront p.new.list) (IsFront c.take_off.new.list) 1 1 c.args.self.now.seat p.new.seat c.args.trace.now p.new.trace m.1.silent c.in_ok-push_and_take.ensures.ran

pub returns-in-Err-clause-ran : goal.returns-in-Err-clause-ran
returns-in-Err-clause-ran c =
    let p = c.push_and_take in
    let k = c.mark in
    let a = c.args.self.now.seat in
    let t = c.args.trace.now in
    let m = c.in_ok-push_and_take.ensures.missed c.in-Err.why (lost_as c.in_ok-push_and_take.field-0 c.in-Err.why c.in-Err.is) in
    let P : Holding → Type 0 = λ h. h ≡ holding p.new.seat in
    ran_then (IsFront p.new.list) 0 1 a p.new.seat k.new.seat t p.new.trace k.new.trace
    (ran_silent (IsFront p.new.list) (IsFront p.new.list) 1 0 a p.new.seat t p.new.trace m.1.silent c.in_ok-push_and_take.ensures.ran)
    (ran_weaker P (IsFront p.new.list) 1 1 p.new.seat k.new.seat p.new.trace k.new.trace (λ h is. front_of_push p.new.list c.args.list.now c.args.new h c.in_ok-push_and_take.ensures.pushed (is ∙ m.1.held ∙ c.requires.held)) (omega arith) k.ensures.ran)

pub returns-in-Err-clause-ok : goal.returns-in-Err-clause-ok
returns-in-Err-clause-ok c =
    let p = c.push_and_take in
    let k = c.mark in
    let a = c.args.self.now.seat in
    let t = c.args.trace.now in
    let list = c.args.list.now in
    let new = c.args.new in
    let why = c.in-Err.why in
    let m = c.in_ok-push_and_take.ensures.missed why (lost_as c.in_ok-push_and_take.field-0 why c.in-Err.is) in
    let P : Holding → Type 0 = λ h. h ≡ holding p.new.seat in
    let held : holding p.new.seat ≡ holding_of list = m.1.held ∙ c.requires.held in
    record {
      pushed = c.in_ok-push_and_take.ensures.pushed;
      misses = misses_between P P 0 1 a a p.new.seat k.new.seat t t p.new.trace k.new.trace p.new.list (length list) why (ran_none P a t) m.0 k.ensures.ran;
      not_worn = search rules;
      marks = marks_by new.mode a.cpu new.tok t k.new.trace
          (λ mode. k.ensures.exclusive mode ∙ ap (λ (u : Vec Event Global). u.items ++ Mark p.new.seat.cpu new.tok ∷ []) m.1.silent ∙ ap (λ (cpu : CpuId). t.items ++ Mark cpu new.tok ∷ []) c.in_ok-push_and_take.ensures.ran.cpu)
          (λ mode. (k.ensures.shared mode).0 ∙ m.1.silent);
      ran =
          ran_then (IsFront list) 0 1 a p.new.seat k.new.seat t p.new.trace k.new.trace
          (ran_silent (IsFront p.new.list) (IsFront list) 1 0 a p.new.seat t p.new.trace m.1.silent c.in_ok-push_and_take.ensures.ran)
          (ran_weaker P (IsFront list) 1 1 p.new.seat k.new.seat p.new.trace k.new.trace (λ h same. whole_front list h (same ∙ held)) (omega arith) k.ensures.ran);
      held = k.ensures.kept ∙ held;
      rows = λ tok. same_rows_then a p.new.seat k.new.seat tok (m.1.rows tok) (k.ensures.rows tok);
    }
