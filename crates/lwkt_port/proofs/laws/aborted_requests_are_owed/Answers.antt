use Rattle.lwkt_port.proofs.Lawful.{eintr_if_aborted}
use Rattle.lwkt_port.proofs.laws.aborted_requests_are_owed.Goals as goal

pub returns : goal.returns
returns c = eintr_if_aborted
