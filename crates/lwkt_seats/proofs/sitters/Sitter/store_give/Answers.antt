use Rattle.lwkt_seats.proofs.SectionMoves.{unstored, stored_and_gave, stays_then}
use Rattle.lwkt_seats.proofs.sitters.Sitter.store_give.Goals as goal

pub returns-then-stored-ne0-clause-does : goal.returns-then-stored-ne0-clause-does
returns-then-stored-ne0-clause-does c =
    unstored c.args.token c.args.cell c.args.value c.args.self.now.seat c.store.new.self.seat c.store.result c.number-stored.result c.number-stored.ensures c.store.ensures.does c.if-stored-ne0.true

pub returns-clause-does : goal.returns-clause-does
returns-clause-does c =
    stored_and_gave c.args.token c.args.cell c.args.value c.args.self.now.seat c.store.new.self.seat c.give.new.self.seat c.store.result c.number-stored.result c.give.result c.number.result c.number-stored.ensures
    c.store.ensures.does c.if-stored-ne0.false c.number.ensures c.give.ensures.does

pub returns-clause-same : goal.returns-clause-same
returns-clause-same c = stays_then c.args.self.now c.store.new.self c.give.new.self c.store.ensures.same c.give.ensures.same
