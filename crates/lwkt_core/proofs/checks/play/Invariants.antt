use Rattle.std.proofs.Common.{take}
use Rattle.lwkt_core.specs.Trace.{Run}
use Rattle.lwkt_core.proofs.checks.play.Given as goal

-- the events so far lead from the first state to the present one
abbrev pub invariant-loop-i : goal.invariant-loop-i
invariant-loop-i l = Run l.fn.state (take l.i l.events) l.state
