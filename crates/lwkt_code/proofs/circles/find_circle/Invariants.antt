use Rattle.std.proofs.Common.{ℕ, ◌<◌}
use Rattle.lwkt_code.specs.Marks.{Opens}
use Rattle.lwkt_code.proofs.circles.find_circle.Given as goal

abbrev pub invariant-loop-begin : goal.invariant-loop-begin
invariant-loop-begin l = (k : ℕ) → k < l.begin → Opens l.steps k
