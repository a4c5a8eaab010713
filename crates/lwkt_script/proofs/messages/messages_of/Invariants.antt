use Rattle.std.proofs.Common.{◌≡◌, ◌≤◌, [], length, drop, All}
use Rattle.serde_json.specs.View.{items_view}
use Rattle.lwkt_script.specs.Outcome.{each}
use Rattle.lwkt_script.specs.Format.{message}
use Rattle.lwkt_script.specs.Limits.{IsMessage}
use Rattle.lwkt_script.proofs.messages.messages_of.Given as goal

abbrev pub invariant-loop-item : goal.invariant-loop-item
invariant-loop-item l = (length l.messages.items ≤ 64) × All (IsMessage l.cpus) l.messages.items × (each (message l.cpus) l.messages.items (items_view (drop l.item-index l.items)) ≡ each (message l.cpus) [] (items_view l.items))
