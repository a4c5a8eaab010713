use Rattle.std.proofs.Common.{◌≡◌, ◌≤◌, drop, length}
use Rattle.lwkt_plain.specs.Tokens.{gave, gives}
use Rattle.lwkt_plain.proofs.tokens.give_all.Given as goal

abbrev pub invariant-loop-left : goal.invariant-loop-left
invariant-loop-left l = (l.left ≤ length l.refs) × (gave l.tokens l.broken ≡ gives l.cpu l.initial.tokens (drop l.left l.refs))

abbrev pub decreases-loop-left : goal.decreases-loop-left
decreases-loop-left l = l.left
