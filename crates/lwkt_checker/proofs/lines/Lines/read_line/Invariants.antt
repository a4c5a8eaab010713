use Rattle.std.proofs.Common.{◌≡◌, ◌-◌, false, vec_len}
use Rattle.std.specs.List.{list_any}
use Rattle.std.specs.Io.KnownBytes.{Consumes}
use Rattle.lwkt_checker.specs.Line.{is_line_feed}
use Rattle.lwkt_checker.specs.LineReading.{left_of}
use Rattle.lwkt_checker.proofs.lines.Lines.read_line.Given as goal

-- the line so far is what was taken, and has no line feed
abbrev pub invariant-loop-self : goal.invariant-loop-self
invariant-loop-self g l = record {
  no_feed : list_any is_line_feed l.self.line.items ≡ false;
  taken : Consumes (left_of l.fn.self (g.S.Source.left l.initial.source)) (left_of l.self (g.S.Source.left l.source)) l.self.line.items;
  unfailed : g.S.Source.has_failed l.source ≡ g.S.Source.has_failed l.initial.source;
}

abbrev pub decreases-loop-self : goal.decreases-loop-self
decreases-loop-self g l = 1048577 - vec_len l.self.line
