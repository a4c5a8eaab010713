use Rattle.lwkt_port.proofs.Lawful.{notes_leave_served}
use Rattle.lwkt_port.proofs.laws.notes_leave_served.Goals as goal

pub returns : goal.returns
returns c = notes_leave_served
