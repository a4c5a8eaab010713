use Rattle.lwkt_show.proofs.Pieces.{joined}
use Rattle.lwkt_show.proofs.turns.show_head.Goals as goal

pub returns : goal.returns
returns c = rw (← c.from.ensures) (joined (joined c.size.ensures c.size-2.ensures) c.number.ensures)
