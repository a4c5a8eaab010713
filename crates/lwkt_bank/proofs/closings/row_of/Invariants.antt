use Rattle.std.proofs.Common.{◌≡◌, ◌<◌, ◌≤◌, ℕ, length}
use Rattle.std.specs.Prelude.{slice_index, vec_capacity}
use Rattle.lwkt_bank.specs.Rule.{cell_word}
use Rattle.lwkt_bank.proofs.closings.row_of.Given as goal

abbrev pub invariant-loop-cell : goal.invariant-loop-cell
invariant-loop-cell l = record {
  many : length l.row.items ≡ l.cell;
  each : (k : ℕ) → k < l.cell → slice_index l.row.items k ≡ slice_index l.words (cell_word l.tok k);
  room : l.cells ≤ vec_capacity l.row;
}
