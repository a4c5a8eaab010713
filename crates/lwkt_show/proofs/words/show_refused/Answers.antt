use Rattle.lwkt_show.proofs.Pieces.{joined}
use Rattle.lwkt_show.proofs.words.show_refused.Goals as goal

pub returns : goal.returns
returns c = joined c.add.ensures c.show_fault.ensures
