use Rattle.lwkt_core.proofs.PictureLemmas.{decides}
use Rattle.lwkt_core.proofs.decisions.decisions_are_events.Goals as goal

pub returns : goal.returns
returns c = decides
