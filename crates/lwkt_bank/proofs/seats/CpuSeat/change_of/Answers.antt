use Rattle.std.proofs.Common.{◌∙◌}
use Rattle.lwkt_bank.proofs.CellMoves.{first_known, first_loaded}
use Rattle.lwkt_bank.proofs.seats.CpuSeat.change_of.Goals as goal

pub returns-in-Some-clause-knowing : goal.returns-in-Some-clause-knowing
returns-in-Some-clause-knowing c = first_known c.args.self.now c.args.tok.0 c.args.cell c.in-Some.ensures.0

pub returns-in-None-clause-knowing : goal.returns-in-None-clause-knowing
returns-in-None-clause-knowing c = first_loaded c.args.self.now c.load-value.new.self c.args.tok.0 c.args.cell c.load-value.result c.in-None.ensures.0 (c.load-value.ensures.value ∙ c.in-None.ensures.1) c.load-value.ensures.changes
