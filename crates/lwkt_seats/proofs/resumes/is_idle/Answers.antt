use Rattle.std.proofs.Common.{sym, ◌∙◌}
use Rattle.std.proofs.lemmas.Bool.{eqb-true, eqb-false}
use Rattle.lwkt_seats.proofs.ListMoves.{counts_idle, idle_counts}
use Rattle.lwkt_seats.proofs.resumes.is_idle.Goals as goal

pub returns-clause-yes : goal.returns-clause-yes
returns-clause-yes c = λ yes. counts_idle c.args.seat.now c.cpu.ensures.within (sym c.requires ∙ eqb-true c.args.count 0 yes)

pub returns-clause-no : goal.returns-clause-no
returns-clause-no c = λ no idle. eqb-false c.args.count 0 no (c.requires ∙ idle_counts c.args.seat.now idle)
