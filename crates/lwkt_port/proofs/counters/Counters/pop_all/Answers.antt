use Rattle.std.proofs.Common.{refl}
use Rattle.std.specs.Prelude.{Some}
use Rattle.lwkt_port.specs.declared.lines.Lane.{Lane}
use Rattle.lwkt_port.specs.Works.{WorkState, work_state}
use Rattle.lwkt_port.proofs.Emptying.{keeps_none, popping_none, popping_more, popped_full}
use Rattle.lwkt_port.proofs.counters.Counters.pop_all.Goals as goal

pub loop-popped-init : goal.loop-popped-init
loop-popped-init c = let s : WorkState = work_state c.args.self.now c.args.trace.now in popping_none c.args.line.now s c.requires.none (keeps_none s)

pub returns-in_default-handle-clause-pops : goal.returns-in_default-handle-clause-pops
returns-in_default-handle-clause-pops c =
    let l = c.loop-popped in
    let e = c.in-Some.ensures in
    let h = c.in_default-handle.ensures in
    let s : WorkState = work_state c.args.self.now c.args.trace.now in
    let s1 : WorkState = work_state l.self l.trace in
    let s2 : WorkState = work_state c.handle.new.self c.handle.new.trace in
    let kept : Lane = record c.pop.new.line { kept = Some c.in-Some.note } in
    popped_full c.args.most l.popped c.args.line.now s l.line s1 c.pop.new.line kept s2 c.in-Some.note c.loop-popped-test.true l.invariant e h.handles refl

pub loop-popped-preserved : goal.loop-popped-preserved
loop-popped-preserved c =
    let l = c.loop-popped in
    let e = c.in-Some.ensures in
    let h = c.in-Some-handle.ensures in
    let s : WorkState = work_state c.args.self.now c.args.trace.now in
    let s1 : WorkState = work_state l.self l.trace in
    let s2 : WorkState = work_state c.handle.new.self c.handle.new.trace in
    popping_more l.popped c.args.line.now s l.line s1 c.pop.new.line s2 c.in-Some.note c.in-Some-handle._fate l.invariant e h.handles h.keeps
