use Rattle.std.proofs.Common.{take}
use Rattle.lwkt_trace.specs.Recognised.{with_events}
use Rattle.lwkt_checker.specs.Knows.{Knows}
use Rattle.lwkt_checker.proofs.trees.fed.Given as goal

-- the judge was fed the events so far
abbrev pub invariant-loop-stated : goal.invariant-loop-stated
invariant-loop-stated l = Knows (with_events l.opening (take l.stated-index l.events)) l.judge
