use Rattle.lwkt_core.proofs.FreeLemmas.{only_marks_refuse}
use Rattle.lwkt_core.proofs.free_tokens.only_marks_refuse_free_tokens.Goals as goal

pub returns : goal.returns
returns c = only_marks_refuse
