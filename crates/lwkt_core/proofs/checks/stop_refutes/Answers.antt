use Rattle.lwkt_core.proofs.TraceLemmas.{stop_is_end}
use Rattle.lwkt_core.proofs.checks.stop_refutes.Goals as goal

pub returns : goal.returns
returns c = stop_is_end
