use Rattle.lwkt_checker.proofs.Stops.{stays_more}
use Rattle.lwkt_checker.proofs.stages.Stage.and_event.Goals as goal

pub returns-in_default : goal.returns-in_default
returns-in_default c = λ trace open_still counted so. stays_more trace c.args.stated.now c.args.self c.in_default.not-Plays open_still so
