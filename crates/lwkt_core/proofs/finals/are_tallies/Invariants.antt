use Rattle.std.proofs.Common.{◌≡◌, take, map}
use Rattle.lwkt_core.specs.Trace.{shown_tallies}
use Rattle.lwkt_core.proofs.finals.are_tallies.Given as goal

abbrev pub invariant-loop-i : goal.invariant-loop-i
invariant-loop-i l = take l.i l.tallies ≡ map (λ tok. shown_tallies tok.law l.cpus tok.tallies) (take l.i l.tokens)
