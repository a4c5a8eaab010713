use Rattle.lwkt_port.proofs.ClosedPorts.{IsClearing}
use Rattle.lwkt_port.proofs.mailrooms.Mailroom.clear.Given as goal

abbrev pub invariant-loop-done : goal.invariant-loop-done
invariant-loop-done l = IsClearing l.done l.initial.self l.initial.trace l.initial.port l.self l.trace l.port
