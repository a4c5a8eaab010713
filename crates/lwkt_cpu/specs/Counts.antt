-- How far a processor has come, by counts (own).
use Rattle.std.specs.Prelude.{◌≡◌, ℕ, List, count_by}
use Rattle.lwkt_port.specs.Counts.{in_hand_count, kept_count, queued_count}
use Rattle.lwkt_cpu.specs.declared.counts.Progress.{Progress}
use Rattle.lwkt_cpu.specs.declared.threads.Thread.{Thread}
use Rattle.lwkt_cpu.specs.Processors.{Processor, is_over}

-- how many threads have ended
abbrev pub ended_count : List Thread → ℕ
ended_count threads = count_by (λ t. is_over t.phase) threads

-- these are the counts of a processor's notes and of its threads that have ended; how many notes it has taken in isn't claimed
pub record Counts {B : Type 0} (p : Processor B) (progress : Progress) : Type 0 where
  pub in_hand : progress.notes.in_hand ≡ in_hand_count p.post.lanes
  pub kept : progress.notes.kept ≡ kept_count p.post.lanes
  pub queued : progress.notes.queued ≡ queued_count p.post.ports
  pub ended : progress.ended ≡ ended_count p.threads
