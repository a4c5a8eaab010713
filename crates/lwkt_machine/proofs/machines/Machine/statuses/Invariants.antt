use Rattle.std.proofs.Common.{◌≡◌, take}
use Rattle.lwkt_machine.specs.Machines.{processors}
use Rattle.lwkt_machine.specs.Statuses.{statuses_of}
use Rattle.lwkt_machine.proofs.machines.Machine.statuses.Given as goal

abbrev pub invariant-loop-number : goal.invariant-loop-number
invariant-loop-number g l = l.statuses.items ≡ statuses_of {B = g.row.B.Denot} (take l.number (processors {B = g.row.B.Denot} l.self-inside.cpus.items))
