use Rattle.std.proofs.Common.{◌≡◌, ◌+◌, ◌*◌, ◌≤◌, ◌++◌, drop, Ok}
use Rattle.lwkt_text.specs.Outcome.{◌>>=◌}
use Rattle.lwkt_text.specs.Operating.{operands_at}
use Rattle.lwkt_text.proofs.operands.operands_at.Given as goal

abbrev pub invariant-loop-kind : goal.invariant-loop-kind
invariant-loop-kind l = record {
  within : l.at ≤ 1001 + 3 * l.kind-index;
  so_far : (operands_at l.names l.vars (drop l.kind-index l.kinds) l.words l.at >>= λ os. Ok (l.operands ++ os)) ≡ operands_at l.names l.vars l.kinds l.words l.i;
}
