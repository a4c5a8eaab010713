use Rattle.lwkt_show.proofs.AskPartings.{texts_apart}
use Rattle.lwkt_show.proofs.laws.texts_decide_asks.Goals as goal

pub returns : goal.returns
returns c = texts_apart
