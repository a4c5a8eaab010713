use Rattle.lwkt_trace.proofs.MessageLists.{messages_read_back, ends_read_back}
use Rattle.lwkt_trace.proofs.laws.messages_are_read_back.Goals as goal

pub returns-clause-opening : goal.returns-clause-opening
returns-clause-opening c = messages_read_back

pub returns-clause-ends : goal.returns-clause-ends
returns-clause-ends c = ends_read_back
