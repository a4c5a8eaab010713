use Rattle.std.proofs.Common.{◌≡◌, ◌+◌, ◌*◌, ◌≤◌, ◌++◌, option_map, drop}
use Rattle.serde_json.specs.View.{view}
use Rattle.lwkt_script.specs.Wish.{operands_at}
use Rattle.lwkt_script.proofs.wishes.operands_at.Given as goal

abbrev pub invariant-loop-kind : goal.invariant-loop-kind
invariant-loop-kind l = record {
  within : l.at ≤ 1 + 2 * l.kind-index;
  so_far : option_map (λ os. l.operands.items ++ os) (operands_at (drop l.kind-index l.kinds) l.at l.count (view l.value)) ≡ operands_at l.kinds 1 l.count (view l.value);
}
