use Rattle.lwkt_checker.proofs.Knowing.{event_known}
use Rattle.lwkt_checker.proofs.judges.Judge.and_event.Goals as goal

pub returns-clause-knows : goal.returns-clause-knows
returns-clause-knows c = λ trace knows. event_known trace c.args.stated.now c.args.self c.in_ok-and_event.field-0 c.requires.open knows c.in_ok-and_event.ensures
