use Rattle.std.proofs.Common.{drop}
use Rattle.lwkt_trace.specs.Printed.{ItemsHaveWords}
use Rattle.lwkt_trace.specs.Readback.{items_as}
use Rattle.lwkt_trace.specs.Values.{row_data, generation_data, tally_data, record_data}
use Rattle.lwkt_trace.proofs.ranges.words_of_lines.Given as goal

-- all have 64 bits, if those to come do
abbrev pub invariant-loop-line : goal.invariant-loop-line
invariant-loop-line l = record {
  rows : ItemsHaveWords (items_as row_data (drop l.line-index l.lines)) → ItemsHaveWords (items_as row_data l.lines);
  generations : ItemsHaveWords (items_as generation_data (drop l.line-index l.lines)) → ItemsHaveWords (items_as generation_data l.lines);
  tallies : ItemsHaveWords (items_as tally_data (drop l.line-index l.lines)) → ItemsHaveWords (items_as tally_data l.lines);
  blobs : ItemsHaveWords (items_as record_data (drop l.line-index l.lines)) → ItemsHaveWords (items_as record_data l.lines);
}
