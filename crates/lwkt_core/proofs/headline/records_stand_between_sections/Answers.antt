use Rattle.lwkt_core.proofs.RunLemmas.{records_stand}
use Rattle.lwkt_core.proofs.headline.records_stand_between_sections.Goals as goal

pub returns : goal.returns
returns c = records_stand
