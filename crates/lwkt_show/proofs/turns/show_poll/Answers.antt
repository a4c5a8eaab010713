use Rattle.lwkt_show.proofs.Pieces.{joined}
use Rattle.lwkt_show.proofs.turns.show_poll.Goals as goal

pub returns : goal.returns
returns c =
    joined (joined (joined (joined (joined (joined (joined (joined c.add.ensures c.show_thread.ensures) c.add-2.ensures) c.show_way.ensures) c.show_step.ensures) c.add-3.ensures) c.show_ask.ensures) c.add-4.ensures) c.show_came.ensures
