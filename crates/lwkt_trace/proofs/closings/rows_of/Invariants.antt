use Rattle.std.proofs.Common.{◌≡◌, [], drop}
use Rattle.serde_json.specs.View.{items_view}
use Rattle.lwkt_script.specs.Outcome.{each}
use Rattle.lwkt_trace.specs.Format.{row_behind}
use Rattle.lwkt_trace.proofs.closings.rows_of.Given as goal

abbrev pub invariant-loop-item : goal.invariant-loop-item
invariant-loop-item l = each row_behind l.rows.items (items_view (drop l.item-index l.items)) ≡ each row_behind [] (items_view l.items)
