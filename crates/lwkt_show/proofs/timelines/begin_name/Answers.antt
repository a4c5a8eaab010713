use Rattle.lwkt_show.proofs.Pieces.{joined}
use Rattle.lwkt_show.proofs.timelines.begin_name.Goals as goal

pub returns : goal.returns
returns c = joined (joined (joined (joined c.add.ensures c.add-2.ensures) c.size.ensures) c.size-2.ensures) c.add-3.ensures
