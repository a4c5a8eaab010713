use Rattle.std.specs.Arc.{arc_value}
use Rattle.lwkt_seats.proofs.CloseMoves.{finished, refused}
use Rattle.lwkt_seats.proofs.closes.finish.Goals as goal

pub returns-clause-closed : goal.returns-clause-closed
returns-clause-closed c = finished c.into_inner.result c.close_sole.result (arc_value c.args.bank) c.args.seats.items c.into_inner.ensures c.close_sole.ensures

pub returns-clause-only : goal.returns-clause-only
returns-clause-only c = refused c.into_inner.result c.close_sole.result c.args.seats.items c.close_sole.ensures
