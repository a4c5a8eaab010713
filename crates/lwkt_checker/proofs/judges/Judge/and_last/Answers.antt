use Rattle.lwkt_checker.proofs.Knowing.{none_known, some_known}
use Rattle.lwkt_checker.proofs.judges.Judge.and_last.Goals as goal

pub returns-in-None : goal.returns-in-None
returns-in-None c = λ trace knows. none_known trace c.args.last c.args.self c.in-None.is c.requires knows

pub returns-in_ok-and_closing-in-Some : goal.returns-in_ok-and_closing-in-Some
returns-in_ok-and_closing-in-Some c = λ trace knows. some_known trace c.args.last c.in-Some.closing c.in_ok-and_closing-in-Some.field-0 c.in-Some.is (c.in_ok-and_closing-in-Some.ensures.knows trace knows)
