use Rattle.std.proofs.Common.{◌≡◌, ◌++◌, string_bytes, drop}
use Rattle.lwkt_report.specs.Report.{numbered_lines}
use Rattle.lwkt_told.specs.Told.{entry_part}
use Rattle.lwkt_told.proofs.logs.show_log.Given as goal

-- what is written, with the entries to come, is the whole log
abbrev pub invariant-loop-i : goal.invariant-loop-i
invariant-loop-i l =
    string_bytes l.out ++ numbered_lines (entry_part l.names l.program l.log) l.i (drop l.i l.log) ≡ string_bytes l.initial.out ++ numbered_lines (entry_part l.names l.program l.log) 0 l.log
