use Rattle.lwkt_core.proofs.NamingLemmas.{naming}
use Rattle.lwkt_core.proofs.headline.runs_name_sections.Goals as goal

pub returns : goal.returns
returns c = naming
