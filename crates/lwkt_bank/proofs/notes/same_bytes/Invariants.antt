use Rattle.std.proofs.Common.{◌≡◌, ◌≢◌, ℕ, ◌<◌, true, false}
use Rattle.std.specs.Prelude.{slice_index}
use Rattle.lwkt_bank.proofs.notes.same_bytes.Given as goal

abbrev pub invariant-loop-place : goal.invariant-loop-place
invariant-loop-place l = record {
  yes : l.same ≡ true → (k : ℕ) → k < l.place → slice_index l.first k ≡ slice_index l.blob k;
  no : l.same ≡ false → l.first ≢ l.blob;
}
