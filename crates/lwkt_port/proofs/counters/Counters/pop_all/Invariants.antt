use Rattle.lwkt_port.specs.Works.{work_state}
use Rattle.lwkt_port.proofs.Emptying.{IsPopping}
use Rattle.lwkt_port.proofs.counters.Counters.pop_all.Given as goal

abbrev pub invariant-loop-popped : goal.invariant-loop-popped
invariant-loop-popped l = IsPopping l.popped l.initial.line (work_state l.initial.self l.initial.trace) l.line (work_state l.self l.trace)
