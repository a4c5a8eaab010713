use Rattle.std.proofs.Common.{◌≡◌, drop}
use Rattle.lwkt_text.specs.Absence.{absent_term}
use Rattle.lwkt_text.proofs.absences.absent_term.Given as goal

abbrev pub invariant-loop-term : goal.invariant-loop-term
invariant-loop-term l = absent_term l.script (drop l.term-index l.terms) ≡ absent_term l.script l.terms
