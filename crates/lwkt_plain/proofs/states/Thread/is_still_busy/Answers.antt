use Rattle.lwkt_plain.proofs.TokenSteps.{word_fits}
use Rattle.lwkt_plain.proofs.states.Thread.is_still_busy.Goals as goal

pub word_of-requires : goal.word_of-requires
word_of-requires c = word_fits c.args.tokens.now c.from-at.result c.part.result.now c.requires c.part.ensures
