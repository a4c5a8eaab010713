use Rattle.lwkt_bank.specs.Seats.{id_of}
use Rattle.lwkt_cpu.proofs.DriveMoves.{IsDriven}
use Rattle.lwkt_cpu.proofs.cpus.Cpu.drive.Given as goal

abbrev pub invariant-loop-made : goal.invariant-loop-made
invariant-loop-made g l = IsDriven {B = g.row.B.Denot} g.B.Body.polled (id_of l.bank) l.initial.self l.self l.initial.trace l.trace l.drove l.made
