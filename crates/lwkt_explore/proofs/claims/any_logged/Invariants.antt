use Rattle.std.proofs.Common.{◌≡◌, drop}
use Rattle.lwkt_explore.specs.Claims.{any_logged}
use Rattle.lwkt_explore.proofs.claims.any_logged.Given as goal

abbrev pub invariant-loop-line : goal.invariant-loop-line
invariant-loop-line l = any_logged l.id l.pattern (drop l.line-index l.lines) ≡ any_logged l.id l.pattern l.lines
