use Rattle.lwkt_code.specs.Marks.{AreMarks}
use Rattle.lwkt_code.proofs.Marking.{unmarked}
use Rattle.lwkt_code.proofs.circles.mark.Given as goal

abbrev pub invariant-loop-ready : goal.invariant-loop-ready
invariant-loop-ready l = AreMarks l.steps l.begin l.marks

abbrev pub decreases-loop-ready : goal.decreases-loop-ready
decreases-loop-ready l = unmarked l.marks
