use Rattle.std.proofs.Common.{drop}
use Rattle.lwkt_trace.specs.Printed.{ItemsHaveWords}
use Rattle.lwkt_trace.specs.Readback.{messages_data}
use Rattle.lwkt_trace.proofs.ranges.words_of_messages.Given as goal

-- all have 64 bits, if those to come do
abbrev pub invariant-loop-message : goal.invariant-loop-message
invariant-loop-message l = ItemsHaveWords (messages_data (drop l.message-index l.messages)) → ItemsHaveWords (messages_data l.messages)
