use Rattle.lwkt_explore.proofs.LawLemmas.{numbered}
use Rattle.lwkt_explore.proofs.laws.outcomes_are_numbered.Goals as goal

pub returns : goal.returns
returns c = numbered
