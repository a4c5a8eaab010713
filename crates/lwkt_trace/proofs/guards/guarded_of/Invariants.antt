use Rattle.std.proofs.Common.{◌≡◌, [], drop}
use Rattle.serde_json.specs.View.{items_view}
use Rattle.lwkt_script.specs.Outcome.{each}
use Rattle.lwkt_trace.specs.Guard.{guarded}
use Rattle.lwkt_trace.proofs.guards.guarded_of.Given as goal

abbrev pub invariant-loop-item : goal.invariant-loop-item
invariant-loop-item l = each guarded l.tokens.items (items_view (drop l.item-index l.items)) ≡ each guarded [] (items_view l.items)
