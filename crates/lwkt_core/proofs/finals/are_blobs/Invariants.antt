use Rattle.std.proofs.Common.{◌≡◌, take, map}
use Rattle.lwkt_core.proofs.finals.are_blobs.Given as goal

abbrev pub invariant-loop-i : goal.invariant-loop-i
invariant-loop-i l = take l.i l.blobs ≡ map (λ tok. tok.blob) (take l.i l.tokens)
