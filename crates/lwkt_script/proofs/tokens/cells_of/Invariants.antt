use Rattle.std.proofs.Common.{◌≡◌, [], length, drop}
use Rattle.serde_json.specs.View.{items_view}
use Rattle.lwkt_script.specs.Outcome.{each}
use Rattle.lwkt_script.specs.Format.{cell}
use Rattle.lwkt_script.proofs.tokens.cells_of.Given as goal

abbrev pub invariant-loop-item : goal.invariant-loop-item
invariant-loop-item l = (length l.cells.items ≡ l.item-index) × (each (cell l.place) l.cells.items (items_view (drop l.item-index l.items)) ≡ each (cell l.place) [] (items_view l.items))
