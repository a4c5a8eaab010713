use Rattle.lwkt_trace.proofs.EventData.{events_read_back}
use Rattle.lwkt_trace.proofs.EventLists.{lists_read_back}
use Rattle.lwkt_trace.proofs.laws.events_are_read_back.Goals as goal

pub returns-clause-each : goal.returns-clause-each
returns-clause-each c = events_read_back

pub returns-clause-all : goal.returns-clause-all
returns-clause-all c = lists_read_back
