use Rattle.lwkt_core.proofs.ChainLemmas.{refutes}
use Rattle.lwkt_core.proofs.sections.section_failure_refutes.Goals as goal

pub returns : goal.returns
returns c = refutes
