use Rattle.std.proofs.Common.{drop}
use Rattle.lwkt_trace.specs.Printed.{ItemsHaveWords}
use Rattle.lwkt_trace.specs.Readback.{items_as}
use Rattle.lwkt_trace.specs.Values.{token_data}
use Rattle.lwkt_trace.proofs.ranges.words_of_tokens.Given as goal

-- all have 64 bits, if those to come do
abbrev pub invariant-loop-token : goal.invariant-loop-token
invariant-loop-token l = ItemsHaveWords (items_as token_data (drop l.token-index l.tokens)) → ItemsHaveWords (items_as token_data l.tokens)
