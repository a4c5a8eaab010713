use Rattle.std.proofs.Common.{◌≡◌, take, map}
use Rattle.lwkt_core.proofs.finals.are_generations.Given as goal

abbrev pub invariant-loop-i : goal.invariant-loop-i
invariant-loop-i l = take l.i l.gens ≡ map (λ tok. tok.generation) (take l.i l.tokens)
