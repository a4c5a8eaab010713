use Rattle.lwkt_checker.proofs.Stops.{stays_last}
use Rattle.lwkt_checker.proofs.stages.Stage.and_closing.Goals as goal

pub returns-in_default : goal.returns-in_default
returns-in_default c = λ trace closing open_still counted values so. stays_last trace closing c.args.last.now c.args.self c.in_default.not-Plays open_still values so
