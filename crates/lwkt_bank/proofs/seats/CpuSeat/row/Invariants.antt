use Rattle.std.proofs.Common.{◌≡◌, ℕ, ◌<◌, length, take}
use Rattle.std.specs.Prelude.{slice_index}
use Rattle.lwkt_bank.specs.Deeds.{reads_all}
use Rattle.lwkt_bank.specs.Seats.{entry, Knowing}
use Rattle.lwkt_bank.proofs.seats.CpuSeat.row.Given as goal

abbrev pub invariant-loop-cell : goal.invariant-loop-cell
invariant-loop-cell l = record {
  four : length l.values ≡ 4;
  row : (k : ℕ) → k < l.cell → slice_index l.values k ≡ slice_index (entry l.fn.self l.tok.0).row k;
  knowing : Knowing l.fn.self l.self l.tok.0 (entry l.fn.self l.tok.0) (reads_all l.fn.self.cpu l.tok.0 0 (take l.cell (entry l.fn.self l.tok.0).row));
}
