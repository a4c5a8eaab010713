use Rattle.std.proofs.Common.{◌≡◌, ℕ, ◌<◌, None}
use Rattle.lwkt_code.specs.Programs.{flaw_at}
use Rattle.lwkt_code.proofs.codes.find_flaw.Given as goal

abbrev pub invariant-loop-at : goal.invariant-loop-at
invariant-loop-at l = (k : ℕ) → k < l.at → flaw_at l.steps k ≡ None
