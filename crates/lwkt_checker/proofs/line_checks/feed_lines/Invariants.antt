use Rattle.std.proofs.Common.{◌≡◌}
use Rattle.lwkt_checker.specs.LineReading.{left_of}
use Rattle.lwkt_checker.specs.LineJudged.{lines_left}
use Rattle.lwkt_checker.proofs.FedLines.{IsFed}
use Rattle.lwkt_checker.proofs.line_checks.feed_lines.Given as goal

-- the judge was fed each line so far, and no call of the source has failed
abbrev pub invariant-loop-is_ended : goal.invariant-loop-is_ended
invariant-loop-is_ended g l = record {
  stage_is : IsFed (left_of l.initial.lines (g.S.Source.left l.initial.source)) (left_of l.lines (g.S.Source.left l.source)) l.judge;
  unfailed : g.S.Source.has_failed l.source ≡ g.S.Source.has_failed l.initial.source;
}

abbrev pub decreases-loop-is_ended : goal.decreases-loop-is_ended
decreases-loop-is_ended g l = lines_left l.judge
