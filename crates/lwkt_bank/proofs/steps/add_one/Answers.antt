use Rattle.lwkt_bank.proofs.CallMoves.{add_asks}
use Rattle.lwkt_bank.proofs.steps.add_one.Goals as goal

pub fetch_add-requires : goal.fetch_add-requires
fetch_add-requires c = add_asks c.args.bank.now c.args.seat.now c.args.tok.0 c.requires.of c.requires.there c.word_of_token-word.result c.word_of_token-word.ensures c.requires.held c.requires.few

pub returns-clause-adds : goal.returns-clause-adds
returns-clause-adds c = c.fetch_add.ensures.2.1 c.args.tok.0 c.word_of_token-word.ensures
