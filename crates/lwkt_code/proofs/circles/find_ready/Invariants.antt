use Rattle.std.proofs.Common.{◌≡◌, ℕ, ◌<◌, slice_index}
use Rattle.lwkt_code.specs.Marks.{back_from}
use Rattle.lwkt_code.proofs.circles.find_ready.Given as goal

abbrev pub invariant-loop-at : goal.invariant-loop-at
invariant-loop-at l = (k : ℕ) → l.begin < k → k < l.at → slice_index l.marks k ≡ 0 → back_from l.steps l.marks l.begin k ≡ 0
