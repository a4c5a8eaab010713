use Rattle.std.proofs.Common.{◌≡◌, ◌+◌, ◌<◌, ◌∷◌, ◌++◌, List, length, drop, string_bytes, refl, sym, ap, ◌∙◌}
use Rattle.std.specs.Option.{option_copied}
use Rattle.std.proofs.lemmas.List.{drop_more}
use Rattle.lwkt_report.specs.Report.{numbered_lines}
use Rattle.lwkt_explore.specs.declared.outcomes.Outcome.{Outcome}
use Rattle.lwkt_explore.specs.Jsons.{item_json, outcome_json}
use Rattle.lwkt_explore.proofs.Writing.{items_on}
use Rattle.lwkt_explore.proofs.jsons.add_outcomes.Goals as goal

pub loop-n-preserved : goal.loop-n-preserved
loop-n-preserved c =
    let all = c.args.all.now in
    let n = c.loop-n.n in
    let one = c.index-all-n.result in
    let rest = drop (n + 1) all in
    let json = outcome_json (option_copied c.args.telling) c.args.tried c.args.outcomes.now.counts.items in
    let below : n < length all = c.loop-n-test.true in
    let here : drop n all ≡ one ∷ rest = drop_more all n one below ∙ ap (λ (e : Outcome). e ∷ rest) (sym c.index-all-n.is) in
    items_on json (string_bytes c.loop-n.out) (string_bytes c.add_comma.new.out) (string_bytes c.add_outcome.new.out) (string_bytes c.args.out.now ++ numbered_lines (item_json json) 0 all) n (n + 1) one (drop n all) rest refl here c.in_ok-add_comma.ensures c.in_ok-add_outcome.ensures c.loop-n.invariant
