use Rattle.lwkt_port.proofs.SightMoves.{lines_see}
use Rattle.lwkt_port.proofs.sights.see_from.Goals as goal

pub returns-clause-sees : goal.returns-clause-sees
returns-clause-sees c = lines_see c.args.from c.args.to c.args.sender.now.items c.args.lanes.now.items c.index_mut-2.result.now c.see_line.new.sender c.index_mut.result.now c.see_line.new.line c.requires.there c.index_mut-2.ensures.value c.requires.back c.index_mut.ensures.value c.see_line.ensures.beside c.see_line.ensures.sees
