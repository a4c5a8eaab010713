use Rattle.std.proofs.Common.{◌≡◌, drop}
use Rattle.lwkt_told.specs.Called.{place_from}
use Rattle.lwkt_told.proofs.called.place_of.Given as goal

abbrev pub invariant-loop-i : goal.invariant-loop-i
invariant-loop-i l = place_from l.i l.id (drop l.i l.ids) ≡ place_from 0 l.id l.ids
