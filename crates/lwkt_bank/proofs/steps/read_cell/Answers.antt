use Rattle.std.proofs.Common.{arith}
use Rattle.lwkt_bank.proofs.CallMoves.{read_asks}
use Rattle.lwkt_bank.proofs.steps.read_cell.Goals as goal

pub load-requires : goal.load-requires
load-requires c = read_asks c.args.bank.now c.args.seat.now c.args.tok.0 c.requires.of c.requires.there c.word_of_cell-word.result c.args.cell c.word_of_cell-word.ensures c.requires.held c.requires.inside

pub returns-clause-reads : goal.returns-clause-reads
returns-clause-reads c = c.load.ensures.2.1 c.args.tok.0 c.args.cell (let s = c.args.bank.now.short c.args.tok.0 in let i = c.requires.inside in omega arith) c.word_of_cell-word.ensures
