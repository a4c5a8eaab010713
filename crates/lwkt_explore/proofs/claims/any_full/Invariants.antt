use Rattle.std.proofs.Common.{◌≡◌, drop}
use Rattle.lwkt_explore.specs.Claims.{any_full}
use Rattle.lwkt_explore.proofs.claims.any_full.Given as goal

abbrev pub invariant-loop-line : goal.invariant-loop-line
invariant-loop-line l = any_full l.id (drop l.line-index l.lines) ≡ any_full l.id l.lines
