use Rattle.std.proofs.Common.{[], ◌∷◌, arith}
use Rattle.std.proofs.lemmas.List.{length-append}
use Rattle.std.proofs.lemmas.List.Elements.{All-push}
use Rattle.serde_json.specs.View.{items_view}
use Rattle.lwkt_script.specs.Outcome.{each}
use Rattle.lwkt_script.specs.Format.{token}
use Rattle.lwkt_script.specs.Limits.{IsToken}
use Rattle.lwkt_script.proofs.EachLemmas.{goes_on}
use Rattle.lwkt_script.proofs.tokens.tokens_of.Goals as goal

pub loop-item-preserved : goal.loop-item-preserved
loop-item-preserved c =
    let tokens = c.loop-item.tokens.items in
    let next = c.in_ok-next.next in
    let read = rw c.as_slice.ensures.value at c.in_ok-next.ensures.exact in
    let within = rw c.as_slice.ensures.value at c.in_ok-next.ensures.within in
    let room = within.1 in
    rw c.in_ok-push.ensures.items (
      omega (arith, length-append tokens (next ∷ []), room),
      All-push IsToken tokens next c.loop-item.invariant.1 within.0,
      goes_on (token c.args.version) tokens c.args.items.now c.loop-item.item-index c.item-item.result next (each (token c.args.version) [] (items_view c.args.items.now)) c.loop-item-test.true c.item-item.is read c.loop-item.invariant.2,
    )
