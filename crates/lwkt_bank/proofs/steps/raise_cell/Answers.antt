use Rattle.std.proofs.Common.{arith}
use Rattle.lwkt_bank.proofs.CallMoves.{raise_asks}
use Rattle.lwkt_bank.proofs.steps.raise_cell.Goals as goal

pub store-requires : goal.store-requires
store-requires c = raise_asks c.args.bank.now c.args.seat.now c.args.tok.0 c.requires.of c.requires.there c.word_of_cell-word.result c.args.value c.word_of_cell-word.ensures c.requires.held c.requires.tally c.requires.raised

pub returns-clause-raises : goal.returns-clause-raises
returns-clause-raises c = c.store.ensures.2.1 c.args.tok.0 0 (omega arith) c.word_of_cell-word.ensures
