use Rattle.lwkt_core.proofs.RunLemmas.{are_events}
use Rattle.lwkt_core.proofs.headline.counts_are_events.Goals as goal

pub returns : goal.returns
returns c = are_events
