use Rattle.std.proofs.Common.{◌≡◌, drop}
use Rattle.lwkt_explore.specs.Claims.{any_in_state}
use Rattle.lwkt_explore.proofs.claims.any_in_state.Given as goal

abbrev pub invariant-loop-line : goal.invariant-loop-line
invariant-loop-line l = any_in_state l.id l.wanted (drop l.line-index l.lines) ≡ any_in_state l.id l.wanted l.lines
