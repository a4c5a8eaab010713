use Rattle.lwkt_bank.proofs.RowMoves.{Restoring}
use Rattle.lwkt_bank.proofs.seats.CpuSeat.restore_cells.Given as goal

abbrev pub invariant-loop-cell : goal.invariant-loop-cell
invariant-loop-cell l = Restoring l.fn.self l.self l.tok.0 l.made l.cell
