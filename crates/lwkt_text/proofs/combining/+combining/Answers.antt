use Rattle.lwkt_text.proofs.Joining.{too_far}
use Rattle.lwkt_text.proofs.combining.+combining.Goals as goal

pub claim_from-returns-then-n-eq0-clause-exact : goal.claim_from-returns-then-n-eq0-clause-exact
claim_from-returns-then-n-eq0-clause-exact t c =
    too_far c.args.n c.args.names.now c.args.words.now c.args.low c.args.left c.args.i c.wrong_at.result c.if-n-eq0.true c.wrong_at.ensures
