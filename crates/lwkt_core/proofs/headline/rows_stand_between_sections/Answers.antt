use Rattle.lwkt_core.proofs.RunLemmas.{rows_stand}
use Rattle.lwkt_core.proofs.headline.rows_stand_between_sections.Goals as goal

pub returns : goal.returns
returns c = rows_stand
