use Rattle.std.proofs.Common.{arith}
use Rattle.lwkt_checker.proofs.Framing.{begins, goes_on, stays_within, next_in_rest}
use Rattle.lwkt_checker.proofs.framed.fed.Goals as goal

pub loop-from-init : goal.loop-from-init
loop-from-init c = record { within = omega arith; knows = begins c.args.opening.now c.in_ok-judge.judge c.args.text.now c.requires.events c.in_ok-judge.ensures.knows }

pub loop-from-preserved : goal.loop-from-preserved
loop-from-preserved c =
    let is = next_in_rest c.args.text.now c.loop-from.from c.loop-from.judge.count c.in-Some.size c.in-Some.event c.in-Some.ensures in
    record {
      within = stays_within c.args.text.now c.loop-from.from c.in-Some.size c.loop-from.judge.count c.in-Some.event c.loop-from.invariant.within is;
      knows =
          goes_on c.args.opening.now c.loop-from.judge c.in_ok-judge-2.judge c.args.text.now c.loop-from.from c.in-Some.size c.in-Some.event c.stated_alone.result c.stated_alone.ensures
          c.loop-from.invariant.within c.if-judge-ge-TRACE_EVENTS.false c.loop-from.invariant.knows is c.in_ok-judge-2.ensures.knows;
    }
