use Rattle.lwkt_show.proofs.Pieces.{joined}
use Rattle.lwkt_show.proofs.deeds.show_token_object.Goals as goal

pub returns : goal.returns
returns c = joined c.add.ensures c.show_token.ensures
