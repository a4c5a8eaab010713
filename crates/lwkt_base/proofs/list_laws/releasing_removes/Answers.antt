use Rattle.lwkt_base.proofs.HoldingLemmas.{holding_of-front}
use Rattle.lwkt_base.proofs.list_laws.releasing_removes.Goals as goal

pub returns : goal.returns
returns c = holding_of-front
