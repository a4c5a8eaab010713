use Rattle.std.proofs.Common.{◌≡◌, take}
use Rattle.lwkt_drive.proofs.chains.have_come.Given as goal

abbrev pub invariant-loop-i : goal.invariant-loop-i
invariant-loop-i l = take l.i l.rows ≡ take l.i l.last
