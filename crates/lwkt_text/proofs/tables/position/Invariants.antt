use Rattle.std.proofs.Common.{◌≡◌, drop}
use Rattle.lwkt_text.specs.Naming.{position_from}
use Rattle.lwkt_text.proofs.tables.position.Given as goal

abbrev pub invariant-loop-i : goal.invariant-loop-i
invariant-loop-i l = position_from l.i l.text (drop l.i l.names) ≡ position_from 0 l.text l.names
