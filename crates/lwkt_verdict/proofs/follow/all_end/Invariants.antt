use Rattle.std.proofs.Common.{ℕ, ◌<◌}
use Rattle.std.specs.Prelude.{slice_get, MatchOption}
use Rattle.lwkt_verdict.specs.Threads.{line_of}
use Rattle.lwkt_verdict.specs.Followed.{IsEnded}
use Rattle.lwkt_verdict.proofs.follow.all_end.Given as goal

-- the threads so far end as their lines say
abbrev pub invariant-loop-slot : goal.invariant-loop-slot
invariant-loop-slot l = (k : ℕ) → k < l.slot → MatchOption (slice_get l.table k) ⊥ (λ t. IsEnded t (line_of k l.lines))
