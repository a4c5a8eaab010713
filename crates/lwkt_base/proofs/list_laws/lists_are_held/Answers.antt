use Rattle.lwkt_base.proofs.HoldingLemmas.{holding_of-known}
use Rattle.lwkt_base.proofs.list_laws.lists_are_held.Goals as goal

pub returns : goal.returns
returns c = holding_of-known
