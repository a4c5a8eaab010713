use Rattle.std.proofs.Common.{◌≡◌, ◌+◌, ◌*◌, ◌≤◌, ◌++◌, option_map, length, drop}
use Rattle.serde_json.specs.View.{view}
use Rattle.lwkt_script.specs.Step.{step_parts}
use Rattle.lwkt_script.proofs.steps.step_parts.Given as goal

abbrev pub invariant-loop-kind : goal.invariant-loop-kind
invariant-loop-kind l = record {
  within : l.at ≤ 1 + 2 * l.kind-index;
  some : length l.parts ≡ l.kind-index;
  so_far : option_map (λ ps. l.parts ++ ps) (step_parts l.version (drop l.kind-index l.kinds) l.at l.count (view l.value)) ≡ step_parts l.version l.kinds 1 l.count (view l.value);
}
