use Rattle.lwkt_checker.proofs.Knowing.{plays_found}
use Rattle.lwkt_checker.proofs.stages.Stage.finding.Goals as goal

pub returns-in-Plays-clause-found : goal.returns-in-Plays-clause-found
returns-in-Plays-clause-found c = λ trace so. plays_found trace c.args.self c.in-Plays.field-0 c.in-Plays.is so
