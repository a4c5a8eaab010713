use Rattle.std.proofs.Common.{[]}
use Rattle.std.proofs.lemmas.List.Elements.{All-push}
use Rattle.serde_json.specs.View.{items_view}
use Rattle.lwkt_script.specs.Outcome.{each}
use Rattle.lwkt_script.specs.Format.{thread}
use Rattle.lwkt_script.specs.Limits.{IsThread}
use Rattle.lwkt_script.proofs.EachLemmas.{goes_on}
use Rattle.lwkt_script.proofs.ThreadCounts.{few_in_all, one_more_few}
use Rattle.lwkt_script.proofs.threads.threads_of.Goals as goal

pub thread-requires-clause-few : goal.thread-requires-clause-few
thread-requires-clause-few c = rw c.as_slice.ensures.value (few_in_all c.args.cpus c.loop-item.threads.items c.requires.few c.loop-item.invariant.1)

pub loop-item-preserved : goal.loop-item-preserved
loop-item-preserved c =
    let threads = c.loop-item.threads.items in
    let next = c.in_ok-next.next in
    let read = rw c.as_slice.ensures.value at c.in_ok-next.ensures.exact in
    let within = rw c.as_slice.ensures.value at c.in_ok-next.ensures.within in
    rw c.in_ok-push.ensures.items (
      goes_on (thread c.args.version c.args.cpus) threads c.args.items.now c.loop-item.item-index c.item-item.result next (each (thread c.args.version c.args.cpus) [] (items_view c.args.items.now)) c.loop-item-test.true c.item-item.is read c.loop-item.invariant.0,
      one_more_few c.args.cpus threads next within.0.cpu within.1 c.loop-item.invariant.1,
      All-push (IsThread c.args.cpus) threads next c.loop-item.invariant.2 within.0,
    )
