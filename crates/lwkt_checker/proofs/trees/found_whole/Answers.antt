use Rattle.lwkt_checker.proofs.Knowing.{found_at, declined_at}
use Rattle.lwkt_checker.proofs.trees.found_whole.Goals as goal

pub returns-in-Ok-clause-ok : goal.returns-in-Ok-clause-ok
returns-in-Ok-clause-ok c = found_at c.finding.result c.args.trace c.in-Ok.judge c.in-Ok.ensures c.finding.ensures.found

pub returns-in-Ok-clause-refused : goal.returns-in-Ok-clause-refused
returns-in-Ok-clause-refused c = declined_at c.finding.result c.args.trace c.in-Ok.judge c.in-Ok.ensures c.finding.ensures.refused
