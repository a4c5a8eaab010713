use Rattle.lwkt_port.proofs.Tracing.{deeds_none, deeds_then}
use Rattle.lwkt_port.proofs.laws.traces_go_together.Goals as goal

pub returns : goal.returns
returns c = record { nothing = deeds_none; chain = deeds_then }
