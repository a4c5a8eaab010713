use Rattle.lwkt_checker.proofs.Knowing.{opening_known}
use Rattle.lwkt_checker.proofs.judges.Judge.opened.Goals as goal

pub returns-clause-knows : goal.returns-clause-knows
returns-clause-knows c = opening_known c.args.opening.now c.in_ok-opened.field-0 c.requires.events c.requires.last c.in_ok-opened.ensures
