use Rattle.lwkt_explore.proofs.KindLemmas.{written_once}
use Rattle.lwkt_explore.proofs.laws.outcomes_are_written_once.Goals as goal

pub returns : goal.returns
returns c = written_once
