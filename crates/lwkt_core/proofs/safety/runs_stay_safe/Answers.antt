use Rattle.lwkt_core.proofs.SafetyLemmas.{stays}
use Rattle.lwkt_core.proofs.safety.runs_stay_safe.Goals as goal

pub returns : goal.returns
returns c = stays
