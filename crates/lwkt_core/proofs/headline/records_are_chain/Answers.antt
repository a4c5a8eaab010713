use Rattle.lwkt_core.proofs.RunLemmas.{records_chain}
use Rattle.lwkt_core.proofs.headline.records_are_chain.Goals as goal

pub returns : goal.returns
returns c = records_chain
