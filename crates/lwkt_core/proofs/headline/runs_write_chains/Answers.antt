use Rattle.lwkt_core.proofs.RunChainLemmas.{write_chains}
use Rattle.lwkt_core.proofs.headline.runs_write_chains.Goals as goal

pub returns : goal.returns
returns c = write_chains
