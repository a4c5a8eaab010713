use Rattle.std.proofs.Common.{◌≡◌, length}
use Rattle.lwkt_port.specs.OpenedPorts.{AreNew}
use Rattle.lwkt_port.proofs.opened_ports.new_ports.Given as goal

abbrev pub invariant-loop-number : goal.invariant-loop-number
invariant-loop-number l = (length l.ports.items ≡ l.number) × AreNew l.threads l.ports.items
