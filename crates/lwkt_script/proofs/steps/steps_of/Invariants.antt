use Rattle.std.proofs.Common.{◌≡◌, [], length, drop}
use Rattle.serde_json.specs.View.{items_view}
use Rattle.lwkt_script.specs.Outcome.{each}
use Rattle.lwkt_script.specs.Format.{step}
use Rattle.lwkt_script.proofs.steps.steps_of.Given as goal

abbrev pub invariant-loop-item : goal.invariant-loop-item
invariant-loop-item l = (length l.asks.items ≡ l.item-index) × (each (step l.version l.n) l.asks.items (items_view (drop l.item-index l.items)) ≡ each (step l.version l.n) [] (items_view l.items))
