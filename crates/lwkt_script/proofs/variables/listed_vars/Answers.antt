use Rattle.std.proofs.Common.{◌≡◌, ℕ, ◌≤◌, List, length, drop, replicate, Some, sym, ◌∙◌, le-leb}
use Rattle.std.proofs.lemmas.List.{at_drop_all}
use Rattle.serde_json.specs.Events.{items_len}
use Rattle.serde_json.specs.View.{items_view}
use Rattle.serde_json.specs.declared.value.Value.{Value}
use Rattle.lwkt_script.specs.Variables.{vars_from, listed_vars}
use Rattle.lwkt_script.proofs.Counts.{items_counted}
use Rattle.lwkt_script.proofs.variables.listed_vars.Goals as goal

-- all numbers
all_read : (items : List Value) (i at : ℕ) (vars : List ℕ) → length items ≤ 8 → length items ≤ i → vars_from at vars (items_view (drop i items)) ≡ vars_from 0 (replicate 8 0) (items_view items)
    → Some vars ≡ listed_vars (items_view items)
all_read items i at vars few past so_far =
    let short : items_len (items_view items) ≤ 8 = rw (items_counted items) few in
    rw (le-leb (items_len (items_view items)) 8 short) (sym (at_drop_all (λ (vs : List Value). vars_from at vars (items_view vs)) items i past) ∙ so_far)

pub returns : goal.returns
returns c = all_read c.args.items.now c.loop-item.item-index c.loop-item.at c.loop-item.vars c.loop-item.invariant.1 c.loop-item-test.false c.loop-item.invariant.2
