use Rattle.lwkt_core.proofs.FreeLemmas.{marks_stay}
use Rattle.lwkt_core.proofs.free_tokens.marks_stay_until_taken.Goals as goal

pub returns : goal.returns
returns c = marks_stay
