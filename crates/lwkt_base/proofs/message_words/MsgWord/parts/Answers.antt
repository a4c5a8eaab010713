use Rattle.lwkt_base.proofs.PartsOfWords.{only_parts}
use Rattle.lwkt_base.proofs.message_words.MsgWord.parts.Goals as goal

pub returns-clause-only : goal.returns-clause-only
returns-clause-only c w fits is = only_parts c.args.word c.of_word.result w c.of_word.ensures fits is
