use Rattle.std.proofs.Common.{◌≡◌, take}
use Rattle.lwkt_plain.proofs.parts.same_below.Given as goal

-- the parts so far are the same
abbrev pub invariant-loop-at : goal.invariant-loop-at
invariant-loop-at g l = take l.at l.parts ≡ take l.at l.other
