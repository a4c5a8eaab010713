use Rattle.std.proofs.Common.{rules, ◌≡◌, ◌<◌, ◌≤◌, ◌+◌, ◌∙◌, true, false, get_or, length, min, arith}
use Rattle.lwkt_explore.specs.Texts.{grouped_with, group_count, later_forms}
use Rattle.lwkt_explore.proofs.KindLemmas.{count_on, later_here, later_passed, later_end}
use Rattle.lwkt_explore.proofs.forms.group_count.Goals as goal
use Rattle.lwkt_explore.proofs.forms.group_count.Goals.{then-grouped_with, else-grouped_with}

pub loop-at-preserved : goal.loop-at-preserved
loop-at-preserved c =
    let outcomes = c.args.outcomes.now in
    let all = outcomes.all.items in
    let one = c.args.outcome.now in
    let at = c.loop-at.at in
    let other = c.index-all-at.result in
    let below : at < length all = (let end = c.loop-at-test.true in rw c.as_slice-all.ensures.value at end) in
    let is : other ≡ get_or all at other = (let there = c.index-all-at.is in rw c.as_slice-all.ensures.value at there) in
    elim c.if-grouped_with.branch [
      | then-grouped_with w ↦ (
          let test : grouped_with one other ≡ true = search rules in
          let here = later_here one at outcomes other below is test in
          let sum' = count_on c.loop-at.total w.saturating_add-total.result w.count_at.result (other, get_or outcomes.counts.items at 0) (later_forms one at outcomes) (later_forms one (at + 1) outcomes) here w.count_at.ensures (omega arith) ∙ c.loop-at.invariant.sum in
          record { sum = rw w.total-is sum'; small = rw w.total-is (omega arith) })
      | else-grouped_with w ↦ (
          let test : grouped_with one other ≡ false = search rules in
          let passed = later_passed one at outcomes other below is test in
          let so = c.loop-at.invariant.sum in
          let few = c.loop-at.invariant.small in
          record { sum = rw w.total-is (rw passed at so); small = rw w.total-is few })
    ]

pub returns : goal.returns
returns c =
    let outcomes = c.args.outcomes.now in
    let over : length outcomes.all.items ≤ c.loop-at.at = (let end = c.loop-at-test.false in rw c.as_slice-all.ensures.value at end) in
    let so = c.loop-at.invariant.sum in
    let written : min 18446744073709551615 (c.loop-at.total + 0) ≡ group_count ((c.args.outcome.now, get_or outcomes.counts.items c.args.place 0), later_forms c.args.outcome.now (c.args.place + 1) outcomes) = rw (later_end c.args.outcome.now c.loop-at.at outcomes over) at so in
    let small : c.loop-at.total ≤ 18446744073709551615 = c.loop-at.invariant.small in
    let same : c.loop-at.total ≡ min 18446744073709551615 (c.loop-at.total + 0) = omega arith in
    same ∙ written
