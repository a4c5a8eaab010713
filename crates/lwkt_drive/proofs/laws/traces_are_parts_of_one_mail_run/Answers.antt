use Rattle.lwkt_drive.proofs.TracedMoves.{one_mail_run}
use Rattle.lwkt_drive.proofs.laws.traces_are_parts_of_one_mail_run.Goals as goal

pub returns : goal.returns
returns c = one_mail_run
