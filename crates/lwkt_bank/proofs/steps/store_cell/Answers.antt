use Rattle.std.proofs.Common.{arith}
use Rattle.lwkt_bank.proofs.CallMoves.{store_asks}
use Rattle.lwkt_bank.proofs.steps.store_cell.Goals as goal

pub store-requires : goal.store-requires
store-requires c = store_asks c.args.bank.now c.args.seat.now c.args.tok.0 c.requires.of c.requires.there c.word_of_cell-word.result c.args.cell c.word_of_cell-word.ensures c.args.value c.requires.held c.requires.untallied c.requires.inside

pub returns-clause-stores : goal.returns-clause-stores
returns-clause-stores c = c.store.ensures.2.1 c.args.tok.0 c.args.cell (let s = c.args.bank.now.short c.args.tok.0 in let i = c.requires.inside in omega arith) c.word_of_cell-word.ensures
