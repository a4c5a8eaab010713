use Rattle.lwkt_bank.proofs.CellMoves.{stored_after}
use Rattle.lwkt_bank.proofs.seats.CpuSeat.put.Goals as goal

pub returns : goal.returns
returns c = stored_after c.args.self.now c.change_of-first.new.self c.store_over.new.self c.args.tok.0 c.args.cell c.args.value _ c.change_of-first.ensures.knowing c.store_over.ensures
