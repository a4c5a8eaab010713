use Rattle.lwkt_show.proofs.Pieces.{joined}
use Rattle.lwkt_show.proofs.turns.show_late.Goals as goal

pub returns : goal.returns
returns c = joined c.add.ensures c.show_answer.ensures
