use Rattle.std.proofs.Common.{◌∙◌}
use Rattle.lwkt_bank.proofs.CellMoves.{first_known, first_loaded}
use Rattle.lwkt_bank.proofs.seats.CpuSeat.tally_cell.Goals as goal

pub returns-in-Some-clause-knowing : goal.returns-in-Some-clause-knowing
returns-in-Some-clause-knowing c = first_known c.args.self.now c.args.tok.0 0 c.in-Some.ensures.0

pub returns-clause-knowing : goal.returns-clause-knowing
returns-clause-knowing c = first_loaded c.args.self.now c.load_tally-value.new.self c.args.tok.0 0 c.load_tally-value.result c.in_default.ensures.0 (c.load_tally-value.ensures.value ∙ c.in_default.ensures.1) c.load_tally-value.ensures.changes
