-- Runs by how the processors are driven (own).
use Rattle.std.specs.Prelude.{ℕ, Bool, List, Option}
use Rattle.lwkt_report.specs.declared.closings.Closing.{Closing}
use Rattle.lwkt_script.specs.declared.scripts.Script.{Script}
use Rattle.lwkt_verdict.specs.declared.turns.Pace.TheVariants.{Rounds}
use Rattle.lwkt_run.specs.declared.modes.Mode.{Mode}
use Rattle.lwkt_run.specs.declared.modes.Mode.TheVariants.{Turns, Threads}
use Rattle.lwkt_run.specs.declared.runs.End.{End}
use Rattle.lwkt_run.specs.Run.{MayClose, HasRun, RunsAs}
use Rattle.lwkt_run.specs.Threaded.{MayCloseOnThreads, HasThreadedRun, RunsOnThreadsAs, lets_all}

-- a run of a script, driven so, may end with these values
abbrev pub MayCloseBy : Mode → Script → Closing → Type 0
MayCloseBy Turns script closing = MayClose (Rounds script.turns) script closing
MayCloseBy Threads script closing = MayCloseOnThreads lets_all script closing

-- these bytes are a script, and a run of it, driven so, may end so, with this report
abbrev pub HasRunBy : Mode → List ℕ → End → List ℕ → Type 0
HasRunBy Turns bytes end text = HasRun bytes end text
HasRunBy Threads bytes end text = HasThreadedRun lets_all bytes end text

-- what the program does with bytes that are a script in JSON, or taken for one, where it is to drive them so
abbrev pub RunsJsonAs : Mode → Bool → Bool → Option (List ℕ) → Option (List ℕ) → Option (List ℕ) → ℕ → Type 0
RunsJsonAs Turns source_failed sink_failed left old new status = RunsAs source_failed sink_failed left old new status
RunsJsonAs Threads source_failed sink_failed left old new status = RunsOnThreadsAs source_failed sink_failed left old new status
