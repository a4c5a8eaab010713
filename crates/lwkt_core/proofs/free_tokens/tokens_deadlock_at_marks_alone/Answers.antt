use Rattle.lwkt_core.proofs.FreeLemmas.{deadlock_at_marks}
use Rattle.lwkt_core.proofs.free_tokens.tokens_deadlock_at_marks_alone.Goals as goal

pub returns : goal.returns
returns c = deadlock_at_marks
