use Rattle.std.proofs.Common.{◌≡◌, take, map}
use Rattle.lwkt_core.proofs.finals.are_rows.Given as goal

abbrev pub invariant-loop-i : goal.invariant-loop-i
invariant-loop-i l = take l.i l.rows ≡ map (λ tok. tok.row) (take l.i l.tokens)
