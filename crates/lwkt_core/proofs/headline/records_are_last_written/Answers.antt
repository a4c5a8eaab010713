use Rattle.lwkt_core.proofs.RunLemmas.{last_written}
use Rattle.lwkt_core.proofs.headline.records_are_last_written.Goals as goal

pub returns : goal.returns
returns c = last_written
