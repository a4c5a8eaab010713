use Rattle.lwkt_core.proofs.FreeLemmas.{marks_refuse}
use Rattle.lwkt_core.proofs.free_tokens.marks_refuse_lone_readers.Goals as goal

pub returns : goal.returns
returns c = marks_refuse
