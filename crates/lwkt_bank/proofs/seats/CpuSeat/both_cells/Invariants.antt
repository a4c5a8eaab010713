use Rattle.std.proofs.Common.{◌≡◌, ℕ, ◌<◌, length}
use Rattle.std.specs.Prelude.{slice_index}
use Rattle.lwkt_bank.specs.Seats.{entry, Knowing, last_loads}
use Rattle.lwkt_bank.proofs.seats.CpuSeat.both_cells.Given as goal

abbrev pub invariant-loop-cell : goal.invariant-loop-cell
invariant-loop-cell l = record {
  four : (length l.before ≡ 4) × (length l.after ≡ 4);
  first : (k : ℕ) → k < l.cell → slice_index l.before k ≡ slice_index (entry l.fn.self l.tok.0).first k;
  row : (k : ℕ) → k < l.cell → slice_index l.after k ≡ slice_index (entry l.fn.self l.tok.0).row k;
  knowing : Knowing l.fn.self l.self l.tok.0 (entry l.fn.self l.tok.0) (last_loads l.fn.self.cpu l.tok.0 (entry l.fn.self l.tok.0) l.cell);
}
