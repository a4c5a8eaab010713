-- Runs in rounds as runs along an order (own).
use Rattle.std.specs.Prelude.{ℕ, List}
use Rattle.lwkt_core.specs.declared.events.Event.{Event}
use Rattle.lwkt_core.specs.declared.finals.Final.{Final}
use Rattle.lwkt_base.specs.declared.threads.ThreadLine.{ThreadLine}
use Rattle.lwkt_script.specs.declared.scripts.Script.{Script}
use Rattle.lwkt_verdict.specs.Run.{GoesRound}
use Rattle.lwkt_run.specs.Keeping.{Kept}
use Rattle.lwkt_run.specs.Run.{RunsInRounds, RunsAlong}

-- a theorem: a run in rounds is the run along an order that goes round the processors, 0 1 .. n-1 0 1 ..
abbrev pub RoundsAreAnOrder : Type 0
RoundsAreAnOrder = (script : Script) (lines : List ThreadLine) (kept : Kept) (trace : List Event) (last : Final) → RunsInRounds script lines kept trace last → (order : List ℕ) × (GoesRound script.cpus 0 order × RunsAlong script order lines kept trace last)
