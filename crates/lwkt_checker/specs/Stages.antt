-- Where one stands with a trace that is fed piece by piece (own).
use Rattle.std.specs.Prelude.{◌++◌, ◌∷◌, [], Option, None, Some}
use Rattle.lwkt_core.specs.declared.finals.Final.{Final}
use Rattle.lwkt_core.specs.Machine.{Machine}
use Rattle.lwkt_core.specs.Trace.{Run, Closes}
use Rattle.lwkt_trace.specs.declared.traces.Closing.{Closing}
use Rattle.lwkt_trace.specs.declared.traces.Stated.{Stated}
use Rattle.lwkt_trace.specs.declared.traces.Trace.{Trace}
use Rattle.lwkt_checker.specs.Judgement.{opening_of, AreValues, OpensTrace, IsJudgedTrace, DeclinesTrace}
use Rattle.lwkt_checker.specs.Stated.{events_stated}
use Rattle.lwkt_checker.specs.declared.judges.Finding.TheVariants.{Unlawful}
use Rattle.lwkt_checker.specs.declared.stages.Stage.{Stage}
use Rattle.lwkt_checker.specs.declared.stages.Stage.TheVariants.{Plays, Fails, Declined}

-- a trace in which nothing has happened yet
abbrev pub opening_alone : Trace → Trace
opening_alone trace = record { cpus = trace.cpus; tokens = trace.tokens; messages = trace.messages; events = []; last = None }

-- a trace with one event more
abbrev pub with_stated : Trace → Stated → Trace
with_stated trace event = record { cpus = trace.cpus; tokens = trace.tokens; messages = trace.messages; events = trace.events ++ event ∷ []; last = trace.last }

-- a trace with these closing values
abbrev pub with_last : Trace → Closing → Trace
with_last trace closing = record { cpus = trace.cpus; tokens = trace.tokens; messages = trace.messages; events = trace.events; last = Some closing }

-- the same, or with none
abbrev pub closed_so : Trace → Option Closing → Trace
closed_so trace last = record { cpus = trace.cpus; tokens = trace.tokens; messages = trace.messages; events = trace.events; last = last }

-- a machine closes with these values, where some are given
abbrev pub ClosesSo : Option Closing → Machine → Type 0
ClosesSo None m = Unit {0}
ClosesSo (Some closing) m = (last : Final) × (AreValues closing last × Closes m last)

-- where a judge stands with a trace: the events have led to this machine, which closes as the trace says, if it says so; or the
-- trace is unlawful, and this is found of it; or its opening is refused
abbrev pub IsStageOf : Trace → Stage → Type 0
IsStageOf trace (Plays state) = OpensTrace trace × (Run (opening_of trace) (events_stated (opening_of trace) trace.events) state × ClosesSo trace.last state)
IsStageOf trace (Fails index why) = IsJudgedTrace trace (Unlawful index why)
IsStageOf trace (Declined fault) = DeclinesTrace trace fault
