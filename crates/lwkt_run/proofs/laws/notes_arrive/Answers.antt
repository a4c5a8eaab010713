use Rattle.lwkt_run.proofs.ArriveMoves.{notes_arrive}
use Rattle.lwkt_run.proofs.laws.notes_arrive.Goals as goal

pub returns : goal.returns
returns c = notes_arrive
