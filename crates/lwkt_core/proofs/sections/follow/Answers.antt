use Rattle.std.proofs.Common.{refl, arith}
use Rattle.lwkt_core.proofs.ChainLemmas.{along-read, none-past}
use Rattle.lwkt_core.proofs.sections.follow.Goals as goal

pub loop-i-preserved : goal.loop-i-preserved
loop-i-preserved c = (
  refl,
  along-read c.args.first.now c.args.last.now c.args.sections.now c.args.tok c.args.from c.loop-i.i c.loop-i.reached.row c.loop-i.reached.generation c.index-sections-i.result c.index-last-tok.result c.requires.known c.requires.as_many c.loop-i-test.true c.requires.come c.loop-i.invariant.1 c.index-sections-i.is (c.if-not-goes_on.ensures.0 refl),
)

pub returns-clause-stops : goal.returns-clause-stops
returns-clause-stops c =
    let end = c.loop-i-test.false in
    let at = c.loop-i.invariant.0 in
    none-past c.args.sections.now c.loop-i.reached.index _ (omega arith)
