use Rattle.lwkt_verdict.proofs.KnownMoves.{is_polled, other_asked}
use Rattle.lwkt_verdict.proofs.follow.asks.Goals as goal

pub returns-then-asks_next-clause-polled : goal.returns-then-asks_next-clause-polled
returns-then-asks_next-clause-polled c = λ yes.
    let a = c.args in
    is_polled a.state.now a.heard.now a.asked.now a.part.now a.followed.now c.hear.new.self c.asks_next.new.self c.go_on.new.self c.hear.ensures.few (c.in_ok-hear.ensures.hears_it c.if-not-branch.false) (c.asks_next.ensures.moves c.if-asks_next.true) (c.go_on.ensures.asked yes)

pub returns-else-asks_next-clause-declines : goal.returns-else-asks_next-clause-declines
returns-else-asks_next-clause-declines c = λ no may.
    let a = c.args in
    other_asked a.state.now a.heard.now a.asked.now a.part.now a.followed.now c.hear.new.self (c.in_ok-hear.ensures.hears_it c.if-not-branch.false) (c.asks_next.ensures.declines c.if-asks_next.false) may
