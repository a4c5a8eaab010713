use Rattle.std.proofs.Common.{◌≡◌}
use Rattle.lwkt_tests.proofs.book.play_lines.Given as goal

abbrev pub invariant-loop-at : goal.invariant-loop-at
invariant-loop-at l = (l.first.table ≡ l.fn.first.table) × (l.second.table ≡ l.fn.second.table)
