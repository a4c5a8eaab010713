use Rattle.lwkt_core.proofs.FreeLemmas.{taken_whole}
use Rattle.lwkt_core.proofs.free_tokens.free_tokens_can_be_taken.Goals as goal

pub returns : goal.returns
returns c = taken_whole
