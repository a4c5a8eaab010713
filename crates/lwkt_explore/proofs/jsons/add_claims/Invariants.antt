use Rattle.std.proofs.Common.{◌≡◌, ◌++◌, drop, string_bytes}
use Rattle.lwkt_report.specs.Report.{numbered_lines}
use Rattle.lwkt_explore.specs.Jsons.{item_json, claim_json}
use Rattle.lwkt_explore.proofs.jsons.add_claims.Given as goal

-- what is written, with the items to come, is all of them
abbrev pub invariant-loop-n : goal.invariant-loop-n
invariant-loop-n l = string_bytes l.out ++ numbered_lines (item_json (claim_json l.bytes l.beside l.found)) l.n (drop l.n l.expectations) ≡ string_bytes l.initial.out ++ numbered_lines (item_json (claim_json l.bytes l.beside l.found)) 0 l.expectations
