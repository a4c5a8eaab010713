use Rattle.std.proofs.Common.{◌≡◌, ◌∙◌, true, sym}
use Rattle.std.proofs.lemmas.Bool.{false≢true}
use Rattle.lwkt_explore.proofs.searches.last_state_of.Goals as goal

pub returns-else-has_ended : goal.returns-else-has_ended
returns-else-has_ended c = λ quiet over.
    let so : c.has_ended.result ≡ true = c.has_ended.ensures.1 over in
    false≢true (sym c.if-has_ended.false ∙ so)
