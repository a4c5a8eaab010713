use Rattle.lwkt_core.proofs.RunLemmas.{are_raises}
use Rattle.lwkt_core.proofs.headline.tallies_are_raises.Goals as goal

pub returns : goal.returns
returns c = are_raises
