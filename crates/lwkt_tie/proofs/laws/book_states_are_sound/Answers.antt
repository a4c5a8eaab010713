use Rattle.lwkt_tie.proofs.MailMoves.{sound}
use Rattle.lwkt_tie.proofs.laws.book_states_are_sound.Goals as goal

pub returns : goal.returns
returns c = λ key s specs cpus holds.
    let ledger = (c.book_keeps_that_rule.ensures key s).0 holds in
    (ledger, sound c.rule_shows_safety.ensures.safe c.rule_shows_safety.ensures.once c.states_are_reached.ensures.reached key s ledger)
