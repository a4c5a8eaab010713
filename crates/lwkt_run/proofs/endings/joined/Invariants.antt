use Rattle.std.proofs.Common.{◌≡◌, take}
use Rattle.lwkt_run.specs.Leaving.{events_of_stops}
use Rattle.lwkt_run.proofs.endings.joined.Given as goal

abbrev pub invariant-loop-stop : goal.invariant-loop-stop
invariant-loop-stop l = l.all.items ≡ events_of_stops (take l.stop-index l.stops)
