use Rattle.std.proofs.Common.{rules, arith, ◌≡◌, ◌++◌, ◌==◌, if◌then◌else◌, length, codes, OnOk, string_bytes, ap}
use Rattle.std.proofs.lemmas.Result.{on_ok_weaker}
use Rattle.std.specs.Fmt.{decimal}
use Rattle.lwkt_report.specs.Report.{line_feed}
use Rattle.lwkt_explore.specs.Texts.{by_kind, extent_text, tried_text}
use Rattle.lwkt_explore.proofs.TextLemmas.{word_one, word_more, summed}
use Rattle.lwkt_explore.proofs.lines.add_sum.Goals as goal
use Rattle.lwkt_explore.proofs.lines.add_sum.Goals.{then-count-eq1, else-count-eq1, then-turns-eq1, else-turns-eq1}

pub returns : goal.returns
returns c =
    let found = c.args.found.now in
    let count = length (by_kind found.outcomes) in
    let same : c.args.count ≡ count = c.requires in
    let noun : c.if-count-eq1.noun.now ≡ (if count == 1 then codes "outcome" else codes "outcomes") =
    elim c.if-count-eq1.branch [
      | then-count-eq1 w ↦ word_one count c.if-count-eq1.noun.now (codes "outcome") (codes "outcomes") (omega arith) (ap (λ x. x.now) w.noun-is)
      | else-count-eq1 w ↦ word_more count c.if-count-eq1.noun.now (codes "outcome") (codes "outcomes") (omega arith) (ap (λ x. x.now) w.noun-is)
    ] in
    let made : c.if-turns-eq1.made.now ≡ (if found.turns == 1 then codes "turn" else codes "turns") =
    elim c.if-turns-eq1.branch [ then-turns-eq1 w ↦ search rules | else-turns-eq1 w ↦ search rules ] in
    let whole : c.extent_word-whole.result.now ≡ extent_text found.extent = c.extent_word-whole.ensures in
    let first : string_bytes c.put.new.out ≡ string_bytes c.args.out.now ++ (decimal c.args.count ++ codes " " ++ c.if-count-eq1.noun.now ++ codes "; ") = c.in_ok-put.ensures in
    let second : string_bytes c.add_tried.new.out ≡ string_bytes c.put.new.out ++ tried_text found.tried = c.in_ok-add_tried.ensures in
    let last : OnOk c.put-2.result (string_bytes c.put-2.new.out ≡ string_bytes c.add_tried.new.out ++ (codes ", " ++ decimal found.turns ++ codes " " ++ c.if-turns-eq1.made.now ++ (codes "; " ++ c.extent_word-whole.result.now ++ line_feed))) = c.put-2.ensures in
    on_ok_weaker c.put-2.result
    (λ is. summed (string_bytes c.args.out.now) (string_bytes c.put.new.out) (string_bytes c.add_tried.new.out) (string_bytes c.put-2.new.out) (decimal count) (codes " ") (if count == 1 then codes "outcome" else codes "outcomes") (codes "; ")
    (tried_text found.tried) (codes ", ") (decimal found.turns) (if found.turns == 1 then codes "turn" else codes "turns") (extent_text found.extent) line_feed
    (rw (same, noun) at first) second (rw (made, whole) at is))
    last
