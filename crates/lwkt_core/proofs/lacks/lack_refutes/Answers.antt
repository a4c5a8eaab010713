use Rattle.lwkt_core.proofs.LackLemmas.{refutes}
use Rattle.lwkt_core.proofs.lacks.lack_refutes.Goals as goal

pub returns : goal.returns
returns c = refutes
