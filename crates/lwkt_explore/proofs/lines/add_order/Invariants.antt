use Rattle.std.proofs.Common.{◌≡◌, ◌++◌, string_bytes, drop}
use Rattle.std.specs.Fmt.{decimal}
use Rattle.lwkt_report.specs.Report.{spaced}
use Rattle.lwkt_explore.proofs.lines.add_order.Given as goal

-- what is written, with the turns to come, is the whole order
abbrev pub invariant-loop-cpu : goal.invariant-loop-cpu
invariant-loop-cpu l = string_bytes l.out ++ spaced decimal (drop l.cpu-index l.order) ≡ string_bytes l.initial.out ++ spaced decimal l.order
