use Rattle.lwkt_msg.proofs.Recording.{records_decided, found_is_put}
use Rattle.lwkt_msg.proofs.Asking.{requests_decided}
use Rattle.lwkt_msg.proofs.laws.history_decides_records.Goals as goal

pub returns-clause-found : goal.returns-clause-found
returns-clause-found c = found_is_put

pub returns-clause-away : goal.returns-clause-away
returns-clause-away c = records_decided

pub returns-clause-asked : goal.returns-clause-asked
returns-clause-asked c = requests_decided
