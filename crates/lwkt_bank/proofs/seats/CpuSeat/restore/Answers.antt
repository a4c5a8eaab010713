use Rattle.lwkt_bank.proofs.RowMoves.{restored_both}
use Rattle.lwkt_bank.proofs.seats.CpuSeat.restore.Goals as goal

pub returns-clause-restored : goal.returns-clause-restored
returns-clause-restored c = λ untallied. restored_both c.args.self.now c.restore_cells-cells.new.self c.restore_record-blob.new.self c.args.tok.0 c.restore_cells-cells.result c.restore_record-blob.result c.restore_cells-cells.ensures c.restore_record-blob.ensures.puts c.restore_record-blob.ensures.changes
