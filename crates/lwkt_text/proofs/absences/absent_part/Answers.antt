use Rattle.std.proofs.Common.{◌∙◌, ap, sym}
use Rattle.lwkt_text.specs.Absence.{absent_part}
use Rattle.lwkt_text.proofs.absences.absent_part.Goals as goal

pub returns-in-InState : goal.returns-in-InState
returns-in-InState c = c.absent-in-InState.ensures ∙ ap (absent_part c.args.script.now) (sym c.in-InState.is)
