use Rattle.std.proofs.Common.{◌≡◌, drop}
use Rattle.std.specs.Prelude.{max}
use Rattle.lwkt_told.specs.Called.{longest}
use Rattle.lwkt_told.proofs.called.longest.Given as goal

abbrev pub invariant-loop-name : goal.invariant-loop-name
invariant-loop-name l = max l.most (longest (drop l.name-index l.names)) ≡ longest l.names
