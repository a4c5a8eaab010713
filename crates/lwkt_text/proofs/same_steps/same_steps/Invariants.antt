use Rattle.std.proofs.Common.{◌≡◌, take}
use Rattle.lwkt_text.proofs.same_steps.same_steps.Given as goal

abbrev pub invariant-loop-i : goal.invariant-loop-i
invariant-loop-i l = take l.i l.ones ≡ take l.i l.others
