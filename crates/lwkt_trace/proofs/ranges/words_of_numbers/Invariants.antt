use Rattle.std.proofs.Common.{drop}
use Rattle.lwkt_trace.specs.Printed.{ItemsHaveWords}
use Rattle.lwkt_trace.specs.Readback.{number_data, items_as}
use Rattle.lwkt_trace.proofs.ranges.words_of_numbers.Given as goal

-- all have 64 bits, if those to come do
abbrev pub invariant-loop-number : goal.invariant-loop-number
invariant-loop-number l = ItemsHaveWords (items_as number_data (drop l.number-index l.numbers)) → ItemsHaveWords (items_as number_data l.numbers)
