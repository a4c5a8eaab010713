use Rattle.lwkt_core.proofs.FreeLemmas.{not_held_free}
use Rattle.lwkt_core.proofs.free_tokens.free_words_are_not_held.Goals as goal

pub returns : goal.returns
returns c = not_held_free
