use Rattle.lwkt_core.proofs.FreeLemmas.{may_be_left}
use Rattle.lwkt_core.proofs.free_tokens.marks_may_be_left.Goals as goal

pub returns : goal.returns
returns c = may_be_left
