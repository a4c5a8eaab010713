use Rattle.std.proofs.Common.{◌≡◌}
use Rattle.std.specs.Prelude.{fold}
use Rattle.lwkt_plain.specs.Letters.{left_by}
use Rattle.lwkt_plain.specs.Places.{with_letter}
use Rattle.lwkt_plain.specs.Intakes.{below}
use Rattle.lwkt_plain.proofs.states.Plain.leave.Given as goal

abbrev pub invariant-loop-m : goal.invariant-loop-m
invariant-loop-m l = l.self ≡ fold (λ now m. with_letter (left_by l.c l.k) m now) l.initial.self (below l.m)
