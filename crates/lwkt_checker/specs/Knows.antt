-- What a judge knows of the trace that it was fed so far, wherever its pieces came from (own).
use Rattle.std.specs.Prelude.{◌≡◌, ℕ, ◌≤◌, List, length, map, is_some}
use Rattle.lwkt_base.specs.declared.limits.TheConstants.{TRACE_EVENTS}
use Rattle.lwkt_core.specs.declared.events.Event.{Event}
use Rattle.lwkt_trace.specs.declared.traces.Trace.{Trace}
use Rattle.lwkt_trace.specs.Readback.{stated_alone}
use Rattle.lwkt_trace.specs.Recognised.{AreWritten, with_events}
use Rattle.lwkt_checker.specs.Stages.{IsStageOf}
use Rattle.lwkt_checker.specs.declared.judges.Judge.{Judge}

-- a judge knows how many events there are, whether closing values have come, and where it stands with the trace
pub record Knows (trace : Trace) (judge : Judge) : Type 0 where
  pub counted : judge.count ≡ length trace.events
  pub closed : judge.closed ≡ is_some trace.last
  pub stage_is : IsStageOf trace judge.stage

-- a text has nothing but events as they are written, and this is a judge of a trace that has these events
pub record KnowsWritten (trace : Trace) (text : List ℕ) (judge : Judge) : Type 0 where
  pub events : List Event
  pub written : AreWritten text events
  pub few : length events ≤ TRACE_EVENTS
  pub knows : Knows (with_events trace (map stated_alone events)) judge
