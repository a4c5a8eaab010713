use Rattle.std.proofs.Common.{sym, arith}
use Rattle.std.proofs.lemmas.List.{length-take-le, take_all}
use Rattle.lwkt_show.proofs.ways.front_of.Goals as goal

pub slice_bounds-result-end : goal.slice_bounds-result-end
slice_bounds-result-end c = sym (length-take-le 32 c.args.made.now (omega (arith, c.if-made-gt-SHOWN.true)))

pub returns-else-made-gt-SHOWN : goal.returns-else-made-gt-SHOWN
returns-else-made-gt-SHOWN c = sym (take_all 32 c.args.made.now (omega (arith, c.if-made-gt-SHOWN.false)))
