use Rattle.std.proofs.Common.{◌≡◌, ◌++◌, string_bytes, drop}
use Rattle.lwkt_report.specs.Report.{message_line, numbered_lines}
use Rattle.lwkt_report.proofs.reports.show_messages.Given as goal

-- what is written, with the lines to come, is the whole text
abbrev pub invariant-loop-message : goal.invariant-loop-message
invariant-loop-message l =
    string_bytes l.out ++ numbered_lines message_line l.message (drop l.message l.ends) ≡ string_bytes l.initial.out ++ numbered_lines message_line 0 l.ends
