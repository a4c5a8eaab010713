use Rattle.std.proofs.Common.{◌≡◌, ◌++◌, string_bytes, drop}
use Rattle.std.specs.List.{flat_map}
use Rattle.lwkt_report.specs.Report.{thread_line}
use Rattle.lwkt_report.proofs.reports.show_threads.Given as goal

-- what is written, with the lines to come, is the whole text
abbrev pub invariant-loop-line : goal.invariant-loop-line
invariant-loop-line l =
    string_bytes l.out ++ flat_map thread_line (drop l.line-index l.lines) ≡ string_bytes l.initial.out ++ flat_map thread_line l.lines
