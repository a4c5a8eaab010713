use Rattle.std.proofs.Common.{◌≡◌, ◌+◌, ◌*◌, ◌≤◌, ◌++◌, length, drop, Ok}
use Rattle.lwkt_text.specs.Outcome.{◌>>=◌}
use Rattle.lwkt_text.specs.Stepping.{parts_at}
use Rattle.lwkt_text.proofs.steps.parts_at.Given as goal

abbrev pub invariant-loop-kind : goal.invariant-loop-kind
invariant-loop-kind l = record {
  within : l.at ≤ 1 + 4 * l.kind-index;
  count : length l.parts ≡ l.kind-index;
  so_far : (parts_at l.names (drop l.kind-index l.kinds) l.words l.at >>= λ ps. Ok (l.parts ++ ps)) ≡ parts_at l.names l.kinds l.words 1;
}
