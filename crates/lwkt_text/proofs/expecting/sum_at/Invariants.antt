use Rattle.std.proofs.Common.{◌≡◌, ◌+◌, ◌*◌, ◌≤◌, drop}
use Rattle.lwkt_text.specs.Claiming.{sum_from, sum_at}
use Rattle.lwkt_text.proofs.expecting.sum_at.Given as goal

abbrev pub invariant-loop-word : goal.invariant-loop-word
invariant-loop-word l = (l.place ≤ l.i + 5 * l._word-index) × (sum_from l.names l.words l.terms l.place (drop l._word-index l.words) ≡ sum_at l.names l.words l.i)
