use Rattle.lwkt_port.proofs.SightMoves.{line_sees, own_ends}
use Rattle.lwkt_port.proofs.sights.see_at.Goals as goal

pub see_line_own-requires : goal.see_line_own-requires
see_line_own-requires c = own_ends c.args.at c.args.lanes.now.items c.index_mut.result.now c.requires c.index_mut.ensures.value

pub returns-clause-sees : goal.returns-clause-sees
returns-clause-sees c = line_sees c.args.at c.args.lanes.now.items c.index_mut.result.now c.see_line_own.new.line c.requires.there c.index_mut.ensures.value c.see_line_own.ensures
