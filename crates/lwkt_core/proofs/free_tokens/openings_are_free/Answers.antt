use Rattle.lwkt_core.proofs.FreeLemmas.{are_free}
use Rattle.lwkt_core.proofs.free_tokens.openings_are_free.Goals as goal

pub returns : goal.returns
returns c = are_free
