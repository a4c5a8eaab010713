use Rattle.lwkt_core.proofs.ChainLemmas.{is_only}
use Rattle.lwkt_core.proofs.sections.section_failure_is_only.Goals as goal

pub returns : goal.returns
returns c = is_only
