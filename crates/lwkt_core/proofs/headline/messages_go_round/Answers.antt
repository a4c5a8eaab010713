use Rattle.lwkt_core.proofs.RunLemmas.{go_round}
use Rattle.lwkt_core.proofs.headline.messages_go_round.Goals as goal

pub returns : goal.returns
returns c = go_round
