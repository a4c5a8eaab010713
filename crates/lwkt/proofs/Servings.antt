-- What is served for a request.
use Rattle.std.proofs.Common.{ℕ, List, subst}
use Rattle.std.specs.Prelude.{Bool, IsTrue, Option}
use Rattle.lwkt_request.specs.declared.requests.Task.{Task}
use Rattle.lwkt.proofs.Formats.{runs_by_old_name}
use Rattle.lwkt.specs.declared.endings.Ending.{Ending}
use Rattle.lwkt.specs.Answering.{Serves, Streams}
use Rattle.lwkt.specs.Making.{TakesScript}
use Rattle.lwkt.specs.Performing.{Performs}

-- a task that takes a script is performed, by the name `lwkt_run` as `run_program` does it
pub serves_script : (task : Task) (order name : Option (List ℕ)) (by_old_name source_failed : Bool) (left : Option (List ℕ)) (s : Streams) (ending : Ending) → TakesScript task
    → Performs task order name source_failed s.failed (IsTrue s.flushed) left s.old s.new ending
    → Serves task order name by_old_name source_failed left s ending
serves_script task order name by_old_name source_failed left s ending takes done = record {
  performs = λ again. done;
  as_format = λ on_threads same.
      let P : Task → Type 0 = λ t. Performs t order name source_failed s.failed (IsTrue s.flushed) left s.old s.new ending in
      runs_by_old_name on_threads order name source_failed s.failed (IsTrue s.flushed) left s.old s.new ending (subst P same done);
  checks = λ same. absurd (subst TakesScript same takes);
  lines = λ same. absurd (subst TakesScript same takes);
}
