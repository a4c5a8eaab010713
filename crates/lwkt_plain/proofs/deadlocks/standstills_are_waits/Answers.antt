use Rattle.lwkt_plain.proofs.Markers.{standstills}
use Rattle.lwkt_plain.proofs.deadlocks.standstills_are_waits.Goals as goal

pub returns : goal.returns
returns c = standstills
