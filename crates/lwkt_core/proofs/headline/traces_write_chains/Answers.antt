use Rattle.lwkt_core.proofs.RunChainLemmas.{write_traces}
use Rattle.lwkt_core.proofs.headline.traces_write_chains.Goals as goal

pub returns : goal.returns
returns c = write_traces
