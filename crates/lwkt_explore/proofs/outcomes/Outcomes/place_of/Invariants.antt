use Rattle.std.proofs.Common.{ℕ, ◌<◌, get_or}
use Rattle.lwkt_explore.specs.declared.outcomes.Outcome.{Outcome}
use Rattle.lwkt_explore.specs.Outcomes.{AreAlike}
use Rattle.lwkt_explore.proofs.outcomes.Outcomes.place_of.Given as goal

abbrev pub invariant-loop-place : goal.invariant-loop-place
invariant-loop-place l = (k : ℕ) (d : Outcome) → k < l.place → AreAlike (get_or l.self.all.items k d) l.outcome → ⊥
