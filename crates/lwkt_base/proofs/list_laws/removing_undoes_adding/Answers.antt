use Rattle.lwkt_base.proofs.HoldingLemmas.{removed-added}
use Rattle.lwkt_base.proofs.list_laws.removing_undoes_adding.Goals as goal

pub returns : goal.returns
returns c = removed-added
