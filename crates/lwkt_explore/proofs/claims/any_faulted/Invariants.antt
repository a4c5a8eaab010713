use Rattle.std.proofs.Common.{◌≡◌, drop}
use Rattle.lwkt_explore.specs.Claims.{any_faulted}
use Rattle.lwkt_explore.proofs.claims.any_faulted.Given as goal

abbrev pub invariant-loop-line : goal.invariant-loop-line
invariant-loop-line l = any_faulted l.n (drop l.line-index l.lines) ≡ any_faulted l.n l.lines
