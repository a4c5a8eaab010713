use Rattle.lwkt_core.proofs.SafetyLemmas.{unwritten}
use Rattle.lwkt_core.proofs.safety.unwritten_rows_are_lawful.Goals as goal

pub returns : goal.returns
returns c = unwritten
