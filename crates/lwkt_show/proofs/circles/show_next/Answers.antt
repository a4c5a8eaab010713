use Rattle.lwkt_show.proofs.Pieces.{joined}
use Rattle.lwkt_show.proofs.circles.show_next.Goals as goal

pub returns : goal.returns
returns c = joined c.add.ensures c.show_thread.ensures
