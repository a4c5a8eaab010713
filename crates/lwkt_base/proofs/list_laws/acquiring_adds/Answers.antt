use Rattle.lwkt_base.proofs.HoldingLemmas.{holding_of-push}
use Rattle.lwkt_base.proofs.list_laws.acquiring_adds.Goals as goal

pub returns : goal.returns
returns c = holding_of-push
