use Rattle.lwkt_core.proofs.SafetyLemmas.{compatible}
use Rattle.lwkt_core.proofs.safety.holders_are_compatible.Goals as goal

pub returns : goal.returns
returns c = compatible
