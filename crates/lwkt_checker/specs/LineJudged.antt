-- What a judge knows of the trace that was fed to it line by line so far (own).
use Rattle.std.specs.Prelude.{◌≡◌, ℕ, ◌+◌, ◌-◌, if◌then◌else◌, Option, None, Some}
use Rattle.lwkt_trace.specs.declared.traces.Trace.{Trace}
use Rattle.lwkt_checker.specs.Knows.{Knows}
use Rattle.lwkt_checker.specs.declared.judges.Judge.{Judge}
use Rattle.lwkt_checker.specs.declared.line_judges.LineJudge.{LineJudge}

-- a judge knows the trace of the lines so far; before the first there is neither
abbrev pub KnowsSo : Option Judge → Option Trace → Type 0
KnowsSo None None = Unit {0}
KnowsSo None (Some trace) = ⊥
KnowsSo (Some judge) None = ⊥
KnowsSo (Some judge) (Some trace) = Knows trace judge

abbrev pub Judges : LineJudge → Option Trace → Type 0
Judges judge stated = KnowsSo judge.judge stated

-- how many lines may still come behind the opening: the events up to 10^15, and the closing values
abbrev pub lines_behind : Judge → ℕ
lines_behind judge = (1000000000000000 - judge.count) + (if judge.closed then 0 else 1)

-- how many lines may still come
abbrev pub lines_still : Option Judge → ℕ
lines_still None = 1000000000000002
lines_still (Some judge) = lines_behind judge

abbrev pub lines_left : LineJudge → ℕ
lines_left judge = lines_still judge.judge
