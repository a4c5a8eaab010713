use Rattle.lwkt_show.proofs.Partings.{lines_apart}
use Rattle.lwkt_show.proofs.laws.lines_decide_turns.Goals as goal

pub returns : goal.returns
returns c = lines_apart
