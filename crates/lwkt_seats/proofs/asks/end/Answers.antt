use Rattle.std.proofs.Common.{rules, ap, inr}
use Rattle.lwkt_base.specs.Holding.{is_held}
use Rattle.lwkt_seats.specs.Asks.{ObeysItsLaw}
use Rattle.lwkt_seats.proofs.asks.end.Goals as goal

-- src/asks.rt:127:1
pub returns-clause-does : goal.returns-clause-does
returns-clause-does c =
    let lawful : ObeysItsLaw c.args.seat.now c.args.tok.0 = search rules in
    (c.requires.there, ap is_held c.requires.last, inr (c.requires.last, lawful, (c.lawful.new.self, (c.lawful.ensures.knowing, (c.give.result, c.give.ensures)))))
