use Rattle.lwkt_msg.proofs.Picturing.{state_is_reached, history_decides_counts, views_decide}
use Rattle.lwkt_msg.proofs.laws.states_are_reached.Goals as goal

pub returns-clause-reached : goal.returns-clause-reached
returns-clause-reached c = state_is_reached

pub returns-clause-counted : goal.returns-clause-counted
returns-clause-counted c = history_decides_counts

pub returns-clause-decided : goal.returns-clause-decided
returns-clause-decided c = views_decide
