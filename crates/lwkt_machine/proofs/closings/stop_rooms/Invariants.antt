use Rattle.std.proofs.Common.{◌≡◌, length}
use Rattle.std.specs.Prelude.{All}
use Rattle.lwkt_machine.specs.Ended.{IsStopRoom}
use Rattle.lwkt_machine.proofs.closings.stop_rooms.Given as goal

abbrev pub invariant-loop-driven : goal.invariant-loop-driven
invariant-loop-driven g l = (length l.stops.items ≡ l._driven-index) × All IsStopRoom l.stops.items
