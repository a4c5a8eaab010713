use Rattle.std.proofs.Common.{◌≡◌, [], drop}
use Rattle.serde_json.specs.View.{items_view}
use Rattle.lwkt_script.specs.Outcome.{each}
use Rattle.lwkt_trace.specs.Format.{message_behind}
use Rattle.lwkt_trace.proofs.messages.messages_of.Given as goal

abbrev pub invariant-loop-item : goal.invariant-loop-item
invariant-loop-item l = each (message_behind l.cpus) l.messages.items (items_view (drop l.item-index l.items)) ≡ each (message_behind l.cpus) [] (items_view l.items)
