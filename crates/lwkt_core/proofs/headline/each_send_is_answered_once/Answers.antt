use Rattle.lwkt_core.proofs.RunLemmas.{answered_once}
use Rattle.lwkt_core.proofs.headline.each_send_is_answered_once.Goals as goal

pub returns : goal.returns
returns c = answered_once
