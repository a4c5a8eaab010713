use Rattle.std.proofs.Common.{◌≡◌, ◌++◌, string_bytes, drop}
use Rattle.lwkt_report.specs.Report.{numbered_lines}
use Rattle.lwkt_told.specs.Called.{ref_part}
use Rattle.lwkt_told.proofs.called.show_refs.Given as goal

-- what is written, with what comes, is the whole text
abbrev pub invariant-loop-i : goal.invariant-loop-i
invariant-loop-i l = string_bytes l.out ++ numbered_lines (ref_part l.names) l.i (drop l.i l.refs) ≡ string_bytes l.initial.out ++ numbered_lines (ref_part l.names) 0 l.refs
