use Rattle.std.proofs.Common.{◌≡◌, take, map}
use Rattle.lwkt_core.specs.Trace.{end_of}
use Rattle.lwkt_core.proofs.finals.are_ends.Given as goal

abbrev pub invariant-loop-i : goal.invariant-loop-i
invariant-loop-i l = take l.i l.ends ≡ map end_of (take l.i l.messages)
