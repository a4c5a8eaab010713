use Rattle.std.proofs.Common.{◌≤◌, ◌-◌, length, take}
use Rattle.lwkt_checker.specs.Knows.{KnowsWritten}
use Rattle.lwkt_checker.proofs.framed.fed.Given as goal

-- the judge was fed the events so far
abbrev pub invariant-loop-from : goal.invariant-loop-from
invariant-loop-from l = record {
  within : l.from ≤ length l.text;
  knows : KnowsWritten l.opening (take l.from l.text) l.judge;
}

abbrev pub decreases-loop-from : goal.decreases-loop-from
decreases-loop-from l = length l.text - l.from
