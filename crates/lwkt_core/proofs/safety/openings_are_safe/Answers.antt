use Rattle.lwkt_core.proofs.SafetyLemmas.{opened}
use Rattle.lwkt_core.proofs.safety.openings_are_safe.Goals as goal

pub returns : goal.returns
returns c = opened
