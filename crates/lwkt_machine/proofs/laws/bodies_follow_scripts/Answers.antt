use Rattle.lwkt_machine.proofs.BodyMoves.{asks_are, lists_are, logs_are}
use Rattle.lwkt_machine.proofs.laws.bodies_follow_scripts.Goals as goal

pub returns-clause-asks : goal.returns-clause-asks
returns-clause-asks c = asks_are

pub returns-clause-lists : goal.returns-clause-lists
returns-clause-lists c = lists_are

pub returns-clause-logs : goal.returns-clause-logs
returns-clause-logs c = logs_are
