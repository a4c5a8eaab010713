use Rattle.std.proofs.Common.{◌≡◌, false, take}
use Rattle.std.specs.List.{list_any}
use Rattle.lwkt_checker.specs.Line.{is_line_feed}
use Rattle.lwkt_checker.proofs.lines.front_of.Given as goal

-- no byte so far is a line feed
abbrev pub invariant-loop-i : goal.invariant-loop-i
invariant-loop-i l = list_any is_line_feed (take l.i l.bytes) ≡ false
