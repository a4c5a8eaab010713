use Rattle.lwkt_hold.specs.Fronts.{IsFront}
use Rattle.lwkt_hold.proofs.LastMoves.{ran_silent, lost_as}
use Rattle.lwkt_hold.proofs.holds.Hold.try_get.Goals as goal

pub returns-in-Err-clause-err : goal.returns-in-Err-clause-err
returns-in-Err-clause-err c =
    let m = c.in_ok-push_and_take.ensures.missed c.in-Err.why (lost_as c.in_ok-push_and_take.field-0 c.in-Err.why c.in-Err.is) in
    (c.take_off.ensures c.args.list.now c.in_ok-push_and_take.ensures.pushed, m.1)

pub returns-in-Err-clause-ran : goal.returns-in-Err-clause-ran
returns-in-Err-clause-ran c =
    let p = c.push_and_take in
    let m = c.in_ok-push_and_take.ensures.missed c.in-Err.why (lost_as c.in_ok-push_and_take.field-0 c.in-Err.why c.in-Err.is) in
    ran_silent (IsFront p.new.list) (IsFront c.take_off.new.list) 1 1 c.args.self.now.seat p.new.seat c.args.trace.now p.new.trace m.1.silent c.in_ok-push_and_take.ensures.ran
