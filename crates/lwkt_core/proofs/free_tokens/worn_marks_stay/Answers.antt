use Rattle.lwkt_core.proofs.FreeLemmas.{worn_stay}
use Rattle.lwkt_core.proofs.free_tokens.worn_marks_stay.Goals as goal

pub returns : goal.returns
returns c = worn_stay
