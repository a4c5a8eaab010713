use Rattle.std.proofs.Common.{◌≡◌, ◌≤◌, [], length, drop, All}
use Rattle.serde_json.specs.View.{items_view}
use Rattle.lwkt_script.specs.Outcome.{each}
use Rattle.lwkt_script.specs.Format.{token}
use Rattle.lwkt_script.specs.Limits.{IsToken}
use Rattle.lwkt_script.proofs.tokens.tokens_of.Given as goal

abbrev pub invariant-loop-item : goal.invariant-loop-item
invariant-loop-item l = (length l.tokens.items ≤ 64) × All IsToken l.tokens.items × (each (token l.version) l.tokens.items (items_view (drop l.item-index l.items)) ≡ each (token l.version) [] (items_view l.items))
