use Rattle.lwkt_port.proofs.Classing.{leaving_chains, notes_come_last}
use Rattle.lwkt_port.proofs.Lawful.{urgent_leave_first}
use Rattle.lwkt_port.proofs.laws.urgent_notes_go_first.Goals as goal

pub returns-clause-first : goal.returns-clause-first
returns-clause-first c = urgent_leave_first

pub returns-clause-chain : goal.returns-clause-chain
returns-clause-chain c = leaving_chains

pub returns-clause-come : goal.returns-clause-come
returns-clause-come c = notes_come_last
