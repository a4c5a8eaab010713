-- What is given out of a run along a course (own).
use Rattle.lwkt_report.specs.declared.closings.Closing.{Closing}
use Rattle.lwkt_script.specs.declared.scripts.Script.{Script}
use Rattle.lwkt_verdict.specs.declared.turns.Pace.TheVariants.{Rounds as InRounds}
use Rattle.lwkt_run.specs.Run.{MayClose, ClosesAlong, IsTurnsRun, IsOrderRun}
use Rattle.lwkt_run.specs.declared.rounds.Course.{Course}
use Rattle.lwkt_run.specs.declared.rounds.Course.TheVariants.{Rounds, Along}
use Rattle.lwkt_run.specs.declared.runs.TurnsRun.{TurnsRun}

-- a run of the script along a course of it may close so
abbrev pub ClosesBy : Course → Script → Closing → Type 0
ClosesBy (Rounds limit) script closing = MayClose (InRounds script.turns) script closing
ClosesBy (Along order) script closing = ClosesAlong script order.now closing

-- a run of the script along a course of it, with all that was kept of it
abbrev pub IsRunBy : Course → Script → TurnsRun → Type 0
IsRunBy (Rounds limit) script run = IsTurnsRun script run
IsRunBy (Along order) script run = IsOrderRun script order.now run
