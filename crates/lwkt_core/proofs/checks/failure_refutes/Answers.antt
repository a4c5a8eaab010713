use Rattle.lwkt_core.proofs.TraceLemmas.{refutes}
use Rattle.lwkt_core.proofs.checks.failure_refutes.Goals as goal

pub returns : goal.returns
returns c = refutes
