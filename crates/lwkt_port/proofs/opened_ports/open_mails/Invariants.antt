use Rattle.std.proofs.Common.{◌≡◌, take, map}
use Rattle.lwkt_port.specs.OpenedPorts.{new_mail}
use Rattle.lwkt_port.proofs.opened_ports.open_mails.Given as goal

abbrev pub invariant-loop-origin : goal.invariant-loop-origin
invariant-loop-origin l = l.mails.items ≡ map (new_mail l.cpu) (take l.origin-index l.origins)
