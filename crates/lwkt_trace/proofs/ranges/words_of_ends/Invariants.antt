use Rattle.std.proofs.Common.{drop}
use Rattle.lwkt_trace.specs.Printed.{ItemsHaveWords}
use Rattle.lwkt_trace.specs.Readback.{ends_data}
use Rattle.lwkt_trace.proofs.ranges.words_of_ends.Given as goal

-- all have 64 bits, if those to come do
abbrev pub invariant-loop-end : goal.invariant-loop-end
invariant-loop-end l = ItemsHaveWords (ends_data (drop l.end-index l.ends)) → ItemsHaveWords (ends_data l.ends)
