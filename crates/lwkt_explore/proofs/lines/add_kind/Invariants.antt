use Rattle.std.proofs.Common.{◌≡◌, ◌+◌, ◌++◌, string_bytes, length}
use Rattle.std.specs.Option.{option_copied}
use Rattle.lwkt_report.specs.Report.{numbered_lines}
use Rattle.lwkt_explore.specs.Texts.{outcome_lines, of_kind}
use Rattle.lwkt_explore.proofs.KindLemmas.{kind_from}
use Rattle.lwkt_explore.proofs.lines.add_kind.Given as goal

-- what is written, with the outcomes to come, is all of the kind, and they are numbered on
abbrev pub invariant-loop-place : goal.invariant-loop-place
invariant-loop-place l = record {
  text : string_bytes l.out ++ numbered_lines (outcome_lines (option_copied l.telling) l.found.tried) (l.number + 1) (kind_from l.kind l.place l.found.outcomes.all.items l.found.outcomes.counts.items)
      ≡ string_bytes l.initial.out ++ numbered_lines (outcome_lines (option_copied l.telling) l.found.tried) (l.before + 1) (of_kind l.kind l.found.outcomes);
  number : l.number + length (kind_from l.kind l.place l.found.outcomes.all.items l.found.outcomes.counts.items) ≡ l.before + length (of_kind l.kind l.found.outcomes);
}
