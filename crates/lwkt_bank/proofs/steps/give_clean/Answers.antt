use Rattle.lwkt_bank.proofs.CallMoves.{give_clean_asks}
use Rattle.lwkt_bank.proofs.steps.give_clean.Goals as goal

pub fetch_sub-requires : goal.fetch_sub-requires
fetch_sub-requires c = give_clean_asks c.args.bank.now c.args.seat.now c.args.tok.0 c.requires.of c.requires.there c.word_of_token-word.result c.word_of_token-word.ensures c.requires.hands c.requires.last c.requires.clean

pub returns-clause-gives : goal.returns-clause-gives
returns-clause-gives c = (c.fetch_sub.ensures.2 c.args.tok.0 c.word_of_token-word.ensures).0

pub returns-clause-puts : goal.returns-clause-puts
returns-clause-puts c = (c.fetch_sub.ensures.2 c.args.tok.0 c.word_of_token-word.ensures).1
