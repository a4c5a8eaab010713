use Rattle.std.proofs.Common.{sym, ◌∙◌}
use Rattle.lwkt_verdict.proofs.PlanMoves.{line_found}
use Rattle.lwkt_verdict.proofs.plans.find_line.Goals as goal

pub returns-then-slot_of-slot-clause-there : goal.returns-then-slot_of-slot-clause-there
returns-then-slot_of-slot-clause-there c =
    line_found c.args.slot c.args.lines.now c.loop-i.i c.index-lines-i.result c.loop-i-test.true c.index-lines-i.is (sym c.slot_of.ensures.slot ∙ c.if-slot_of-slot.true) c.loop-i.invariant
