use Rattle.std.proofs.Common.{[]}
use Rattle.serde_json.specs.View.{items_view}
use Rattle.lwkt_script.specs.Outcome.{each}
use Rattle.lwkt_trace.specs.Format.{tally}
use Rattle.lwkt_script.proofs.EachLemmas.{goes_on, refuses, hands_on, ends as ended}
use Rattle.lwkt_trace.proofs.closings.tallies_of.Goals as goal

pub loop-item-preserved : goal.loop-item-preserved
loop-item-preserved c =
    let read = rw c.as_slice.ensures.value at c.in_ok-next.ensures in
    rw c.in_ok-push.ensures.items (goes_on tally c.loop-item.tallies.items c.args.items.now c.loop-item.item-index c.item-item.result c.in_ok-next.next (each tally [] (items_view c.args.items.now)) c.loop-item-test.true c.item-item.is read c.loop-item.invariant)

pub returns-in_err-next : goal.returns-in_err-next
returns-in_err-next c =
    let read = rw c.as_slice.ensures.value at c.in_err-next.ensures in
    hands_on c.from_residual.result (λ v. v.items) c.in_err-next.field-0.0 (each tally [] (items_view c.args.items.now)) c.from_residual.ensures.1
    (refuses tally c.loop-item.tallies.items c.args.items.now c.loop-item.item-index c.item-item.result c.in_err-next.field-0.0 (each tally [] (items_view c.args.items.now)) c.loop-item-test.true c.item-item.is read c.loop-item.invariant)

pub returns : goal.returns
returns c = ended tally c.loop-item.tallies.items c.args.items.now c.loop-item.item-index (each tally [] (items_view c.args.items.now)) c.loop-item-test.false c.loop-item.invariant
