use Rattle.std.proofs.Common.{◌≡◌, ◌+◌, ◌<◌, ◌∷◌, ◌++◌, List, length, drop, string_bytes, refl, sym, ap, ◌∙◌}
use Rattle.std.proofs.lemmas.List.{drop_more}
use Rattle.lwkt_report.specs.Report.{numbered_lines}
use Rattle.lwkt_text.specs.declared.claims.Expectation.{Expectation}
use Rattle.lwkt_explore.specs.Jsons.{item_json, claim_json}
use Rattle.lwkt_explore.proofs.Writing.{items_on}
use Rattle.lwkt_explore.proofs.jsons.add_claims.Goals as goal

pub loop-n-preserved : goal.loop-n-preserved
loop-n-preserved c =
    let all = c.args.expectations.now in
    let n = c.loop-n.n in
    let one = c.index-expectations-n.result in
    let rest = drop (n + 1) all in
    let json = claim_json c.args.bytes.now c.args.beside.now c.args.found.now in
    let below : n < length all = c.loop-n-test.true in
    let here : drop n all ≡ one ∷ rest = drop_more all n one below ∙ ap (λ (e : Expectation). e ∷ rest) (sym c.index-expectations-n.is) in
    items_on json (string_bytes c.loop-n.out) (string_bytes c.add_comma.new.out) (string_bytes c.add_claim.new.out) (string_bytes c.args.out.now ++ numbered_lines (item_json json) 0 all) n (n + 1) one (drop n all) rest refl here c.in_ok-add_comma.ensures c.in_ok-add_claim.ensures c.loop-n.invariant
