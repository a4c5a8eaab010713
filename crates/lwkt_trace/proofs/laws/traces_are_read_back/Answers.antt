use Rattle.lwkt_trace.proofs.TokenLists.{tokens_read_back}
use Rattle.lwkt_trace.proofs.ClosingValues.{closing_read_back}
use Rattle.lwkt_trace.proofs.WholeTraces.{trace_read_back}
use Rattle.lwkt_trace.proofs.laws.traces_are_read_back.Goals as goal

pub returns-clause-tokens : goal.returns-clause-tokens
returns-clause-tokens c = tokens_read_back

pub returns-clause-closing : goal.returns-clause-closing
returns-clause-closing c = closing_read_back

pub returns-clause-whole : goal.returns-clause-whole
returns-clause-whole c = trace_read_back
