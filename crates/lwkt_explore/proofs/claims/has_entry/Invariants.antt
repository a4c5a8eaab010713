use Rattle.std.proofs.Common.{◌≡◌, drop}
use Rattle.lwkt_explore.specs.Claims.{has_entry}
use Rattle.lwkt_explore.proofs.claims.has_entry.Given as goal

abbrev pub invariant-loop-e : goal.invariant-loop-e
invariant-loop-e l = has_entry l.pattern (drop l.e-index l.log) ≡ has_entry l.pattern l.log
