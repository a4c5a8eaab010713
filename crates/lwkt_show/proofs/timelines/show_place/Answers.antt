use Rattle.lwkt_show.proofs.Pieces.{joined}
use Rattle.lwkt_show.proofs.timelines.show_place.Goals as goal

pub returns : goal.returns
returns c = joined (joined c.size.ensures c.size-2.ensures) c.size-3.ensures
