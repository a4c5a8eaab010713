use Rattle.std.proofs.Common.{rules, ◌≡◌, ◌+◌, ◌<◌, ◌≤◌, ◌&&◌, not, append-nil, ◌++◌, ◌∙◌, get_or, length, take, string_bytes, ap, sym, add-one, refl, arith, true, false}
use Rattle.std.specs.List.{list_any}
use Rattle.std.specs.Option.{option_copied}
use Rattle.lwkt_report.specs.Report.{numbered_lines}
use Rattle.lwkt_explore.specs.Texts.{is_kind, of_kind, outcome_lines, group_at, grouped_with}
use Rattle.lwkt_explore.proofs.KindLemmas.{kind_from, kind_here, kind_passed, kind_end, written_on}
use Rattle.lwkt_explore.proofs.lines.add_kind.Goals as goal
use Rattle.lwkt_explore.proofs.lines.add_kind.Goals.{then-is_first+in_ok-add_outcome, else-is_first}

pub loop-place-init : goal.loop-place-init
loop-place-init c = record { text = refl; number = refl }

pub loop-place-preserved : goal.loop-place-preserved
loop-place-preserved c =
    let outcomes = c.args.found.now.outcomes in
    let all = outcomes.all.items in
    let counts = outcomes.counts.items in
    let place = c.loop-place.place in
    let outcome = c.index-all-place.result in
    let line = outcome_lines (option_copied c.args.telling) c.args.found.now.tried in
    let below : place < length all = (let end = c.loop-place-test.true in rw c.as_slice-all.ensures.value at end) in
    let is : outcome ≡ get_or all place outcome = (let there = c.index-all-place.is in rw c.as_slice-all.ensures.value at there) in
    elim c.if-is_first.branch [
      | then-is_first+in_ok-add_outcome w ↦ (
          let test : (not (list_any (grouped_with outcome) (take place all)) && is_kind c.args.kind outcome.kind) ≡ true = search rules in
          let here = kind_here c.args.kind place outcomes outcome below is test in
          let long : length (kind_from c.args.kind place all counts) ≡ length (kind_from c.args.kind (place + 1) all counts) + 1 = ap length here ∙ sym (add-one (length (kind_from c.args.kind (place + 1) all counts))) in
          let next : c.if-is_first.number ≡ c.loop-place.number + 1 = omega arith in
          let line_written : string_bytes w.add_outcome.new.out ≡ string_bytes c.loop-place.out ++ line w.saturating_add-number.result (group_at outcome place outcomes) = w.in_ok-add_outcome.ensures in
          let more : string_bytes c.if-is_first.out ≡ string_bytes c.loop-place.out ++ line c.if-is_first.number (group_at outcome place outcomes) = rw (w.out-is, w.number-is) line_written in
          record {
            text = written_on line (string_bytes c.loop-place.out) (string_bytes c.if-is_first.out) (string_bytes c.args.out.now ++ numbered_lines line (c.args.before + 1) (of_kind c.args.kind outcomes))
                c.loop-place.number c.if-is_first.number (group_at outcome place outcomes) (kind_from c.args.kind place all counts) (kind_from c.args.kind (place + 1) all counts)
                next here more c.loop-place.invariant.text;
            number = omega arith;
          })
      | else-is_first w ↦ (
          let test : (not (list_any (grouped_with outcome) (take place all)) && is_kind c.args.kind outcome.kind) ≡ false = search rules in
          let passed = kind_passed c.args.kind place outcomes outcome below is test in
          let text = c.loop-place.invariant.text in
          let number = c.loop-place.invariant.number in
          record { text = rw (w.out-is, w.number-is) (rw passed at text); number = rw w.number-is (rw passed at number) })
    ]

pub returns-clause-text : goal.returns-clause-text
returns-clause-text c =
    let all = c.args.found.now.outcomes.all.items in
    let counts = c.args.found.now.outcomes.counts.items in
    let over : length all ≤ c.loop-place.place = (let end = c.loop-place-test.false in rw c.as_slice-all.ensures.value at end) in
    let text = c.loop-place.invariant.text in
    let written = rw (kind_end c.args.kind c.loop-place.place all counts over) at text in
    sym (append-nil (string_bytes c.loop-place.out)) ∙ written

pub returns-clause-number : goal.returns-clause-number
returns-clause-number c =
    let all = c.args.found.now.outcomes.all.items in
    let counts = c.args.found.now.outcomes.counts.items in
    let over : length all ≤ c.loop-place.place = (let end = c.loop-place-test.false in rw c.as_slice-all.ensures.value at end) in
    let none = ap length (kind_end c.args.kind c.loop-place.place all counts over) in
    omega arith
