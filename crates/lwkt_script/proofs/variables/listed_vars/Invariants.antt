use Rattle.std.proofs.Common.{◌≡◌, ◌≤◌, length, drop, replicate}
use Rattle.serde_json.specs.View.{items_view}
use Rattle.lwkt_script.specs.Variables.{vars_from}
use Rattle.lwkt_script.proofs.variables.listed_vars.Given as goal

abbrev pub invariant-loop-item : goal.invariant-loop-item
invariant-loop-item l = (l.at ≡ l.item-index) × (length l.items ≤ 8) × (vars_from l.at l.vars (items_view (drop l.item-index l.items)) ≡ vars_from 0 (replicate 8 0) (items_view l.items))
