use Rattle.lwkt_core.proofs.RunLemmas.{are_chain}
use Rattle.lwkt_core.proofs.headline.sections_are_chain.Goals as goal

pub returns : goal.returns
returns c = are_chain
