use Rattle.lwkt_core.proofs.RunLemmas.{are_compatible}
use Rattle.lwkt_core.proofs.headline.runs_are_compatible.Goals as goal

pub returns : goal.returns
returns c = are_compatible
