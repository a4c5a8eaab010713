use Rattle.std.proofs.Common.{◌≡◌, ◌++◌, string_bytes, drop}
use Rattle.lwkt_report.specs.Report.{spaced}
use Rattle.lwkt_report.proofs.listings.show_spaced.Given as goal

-- what is written, with the text of the parts to come, is the whole text
abbrev pub invariant-loop-part : goal.invariant-loop-part
invariant-loop-part g l =
    string_bytes l.out ++ spaced g.S.Shown.text (drop l.part-index l.parts) ≡ string_bytes l.initial.out ++ spaced g.S.Shown.text l.parts
