use Rattle.std.proofs.Common.{◌≡◌, [], drop}
use Rattle.serde_json.specs.View.{items_view}
use Rattle.lwkt_script.specs.Outcome.{each}
use Rattle.lwkt_trace.specs.Format.{record_behind}
use Rattle.lwkt_trace.proofs.closings.blobs_of.Given as goal

abbrev pub invariant-loop-item : goal.invariant-loop-item
invariant-loop-item l = each record_behind l.blobs.items (items_view (drop l.item-index l.items)) ≡ each record_behind [] (items_view l.items)
