use Rattle.std.proofs.Common.{◌≡◌, ◌<◌, ◌≤◌, ℕ, length}
use Rattle.std.specs.Prelude.{slice_index, vec_capacity}
use Rattle.lwkt_bank.specs.Closing.{kept_by}
use Rattle.lwkt_bank.proofs.closings.tallies_of.Given as goal

abbrev pub invariant-loop-cpu : goal.invariant-loop-cpu
invariant-loop-cpu l = record {
  many : length l.tallies.items ≡ l.cpu;
  each : (k : ℕ) → k < l.cpu → slice_index l.tallies.items k ≡ kept_by l.kept l.tok k;
  room : l.cpus ≤ vec_capacity l.tallies;
}
