use Rattle.lwkt_port.specs.Works.{WorkState, work_state}
use Rattle.lwkt_port.proofs.Emptying.{keeps_then}
use Rattle.lwkt_port.proofs.counters.Counters.empty.Goals as goal

pub returns-clause-keeps : goal.returns-clause-keeps
returns-clause-keeps c =
    let h = c.in-Some-handle.ensures in
    let s : WorkState = work_state c.args.self.now c.args.trace.now in
    let s1 : WorkState = work_state c.handle.new.self c.handle.new.trace in
    let s2 : WorkState = work_state c.pop_all-2.new.self c.pop_all-2.new.trace in
    keeps_then s s1 s2 h.keeps c.pop_all-2.ensures.keeps
