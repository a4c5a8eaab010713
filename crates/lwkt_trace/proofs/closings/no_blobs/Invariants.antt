use Rattle.std.proofs.Common.{◌≡◌, None, replicate}
use Rattle.lwkt_trace.proofs.closings.no_blobs.Given as goal

abbrev pub invariant-loop : goal.invariant-loop
invariant-loop l = l.blobs.items ≡ replicate l.counter None
