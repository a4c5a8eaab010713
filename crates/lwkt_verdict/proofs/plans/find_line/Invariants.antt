use Rattle.std.proofs.Common.{◌≡◌, drop}
use Rattle.lwkt_verdict.specs.Threads.{line_of}
use Rattle.lwkt_verdict.proofs.plans.find_line.Given as goal

-- the line is that among the ones that are left
abbrev pub invariant-loop-i : goal.invariant-loop-i
invariant-loop-i l = line_of l.slot l.lines ≡ line_of l.slot (drop l.i l.lines)
