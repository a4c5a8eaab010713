use Rattle.std.proofs.Common.{◌≡◌, take}
use Rattle.lwkt_plain.proofs.parts.same_words.Given as goal

-- the threads so far are the same
abbrev pub invariant-loop-k : goal.invariant-loop-k
invariant-loop-k l = take l.k l.threads ≡ take l.k l.other
