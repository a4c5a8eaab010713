use Rattle.std.proofs.Common.{◌≡◌, ◌++◌, string_bytes, drop}
use Rattle.lwkt_report.specs.Report.{token_line, numbered_lines}
use Rattle.lwkt_report.proofs.reports.show_tokens.Given as goal

-- what is written, with the lines to come, is the whole text
abbrev pub invariant-loop-tok : goal.invariant-loop-tok
invariant-loop-tok l =
    string_bytes l.out ++ numbered_lines token_line l.tok (drop l.tok l.lines) ≡ string_bytes l.initial.out ++ numbered_lines token_line 0 l.lines
