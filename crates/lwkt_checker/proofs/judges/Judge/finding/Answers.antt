use Rattle.lwkt_checker.proofs.Knowing.{found_known, declined_known}
use Rattle.lwkt_checker.proofs.judges.Judge.finding.Goals as goal

pub returns-clause-found : goal.returns-clause-found
returns-clause-found c = found_known c.finding.result c.args.self c.finding.ensures.found

pub returns-clause-refused : goal.returns-clause-refused
returns-clause-refused c = declined_known c.finding.result c.args.self c.finding.ensures.refused
