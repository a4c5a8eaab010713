use Rattle.lwkt_show.proofs.Pieces.{joined}
use Rattle.lwkt_show.proofs.circles.show_circle.Goals as goal

pub returns : goal.returns
returns c = joined c.show_thread.ensures c.show_others.ensures
