use Rattle.std.proofs.Common.{◌≡◌, take}
use Rattle.lwkt_machine.proofs.statuses.list_of.Given as goal

abbrev pub invariant-loop-r : goal.invariant-loop-r
invariant-loop-r l = l.list ≡ take l.r-index l.refs
