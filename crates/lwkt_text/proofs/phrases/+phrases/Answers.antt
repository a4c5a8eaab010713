use Rattle.lwkt_text.proofs.Reaching.{too_far}
use Rattle.lwkt_text.proofs.phrases.+phrases.Goals as goal

pub phrase_from-returns-then-n-eq0-clause-exact : goal.phrase_from-returns-then-n-eq0-clause-exact
phrase_from-returns-then-n-eq0-clause-exact t c =
    too_far c.args.n c.args.vars.now c.args.words.now c.args.low c.args.left c.args.i c.wrong_at.result c.if-n-eq0.true c.wrong_at.ensures
