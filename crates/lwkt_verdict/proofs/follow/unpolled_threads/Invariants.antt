use Rattle.std.proofs.Common.{◌≡◌, ℕ, ◌<◌, ◌/◌, ◌%◌, length}
use Rattle.std.specs.Prelude.{slice_get, MatchOption}
use Rattle.lwkt_verdict.specs.Threads.{plan_of_thread}
use Rattle.lwkt_verdict.specs.Followed.{unpolled}
use Rattle.lwkt_verdict.proofs.follow.unpolled_threads.Given as goal

-- the threads so far are there, unpolled
abbrev pub invariant-loop-slot : goal.invariant-loop-slot
invariant-loop-slot l = record {
  room : length l.table.items ≡ l.slot;
  below : (k : ℕ) → k < l.slot → MatchOption (slice_get l.table.items k) ⊥ (λ t. t ≡ unpolled (plan_of_thread (k / 16) (k % 16) l.plans));
}
