use Rattle.lwkt_msg.proofs.Picturing.{state_is_safe, sends_at_most_once}
use Rattle.lwkt_msg.proofs.laws.rule_shows_safety.Goals as goal

pub returns-clause-safe : goal.returns-clause-safe
returns-clause-safe c = state_is_safe

pub returns-clause-once : goal.returns-clause-once
returns-clause-once c = sends_at_most_once
