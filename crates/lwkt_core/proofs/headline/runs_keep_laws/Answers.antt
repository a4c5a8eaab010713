use Rattle.lwkt_core.proofs.RunLemmas.{keep_laws}
use Rattle.lwkt_core.proofs.headline.runs_keep_laws.Goals as goal

pub returns : goal.returns
returns c = keep_laws
