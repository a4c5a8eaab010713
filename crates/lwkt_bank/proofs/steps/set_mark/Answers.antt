use Rattle.lwkt_bank.proofs.CallMoves.{mark_asks}
use Rattle.lwkt_bank.proofs.steps.set_mark.Goals as goal

pub fetch_or-requires : goal.fetch_or-requires
fetch_or-requires c = mark_asks c.args.bank.now c.args.seat.now c.args.tok.0 c.requires.of c.requires.there c.word_of_token-word.result c.word_of_token-word.ensures

pub returns-clause-marks : goal.returns-clause-marks
returns-clause-marks c = c.fetch_or.ensures.2.1 c.args.tok.0 c.word_of_token-word.ensures
