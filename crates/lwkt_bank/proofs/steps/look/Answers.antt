use Rattle.lwkt_bank.proofs.CallMoves.{look_asks}
use Rattle.lwkt_bank.proofs.steps.look.Goals as goal

pub load-requires : goal.load-requires
load-requires c = look_asks c.args.bank.now c.args.seat.now c.args.tok.0 c.requires.of c.requires.there c.word_of_token-word.result c.word_of_token-word.ensures

pub returns-clause-looks : goal.returns-clause-looks
returns-clause-looks c = c.load.ensures.2.1 c.args.tok.0 c.word_of_token-word.ensures
