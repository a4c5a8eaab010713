use Rattle.std.proofs.Common.{◌≡◌, ◌++◌, drop, string_bytes}
use Rattle.std.specs.Option.{option_copied}
use Rattle.lwkt_report.specs.Report.{numbered_lines}
use Rattle.lwkt_explore.specs.Jsons.{item_json, outcome_json}
use Rattle.lwkt_explore.proofs.jsons.add_outcomes.Given as goal

-- what is written, with the items to come, is all of them
abbrev pub invariant-loop-n : goal.invariant-loop-n
invariant-loop-n l = string_bytes l.out ++ numbered_lines (item_json (outcome_json (option_copied l.telling) l.tried l.outcomes.counts.items)) l.n (drop l.n l.all) ≡ string_bytes l.initial.out ++ numbered_lines (item_json (outcome_json (option_copied l.telling) l.tried l.outcomes.counts.items)) 0 l.all
