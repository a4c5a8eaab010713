use Rattle.std.proofs.Common.{◌≡◌, take, map}
use Rattle.lwkt_core.specs.Opening.{opened_token}
use Rattle.lwkt_core.proofs.first_states.opened_tokens.Given as goal

abbrev pub invariant-loop-spec : goal.invariant-loop-spec
invariant-loop-spec l = l.tokens.items ≡ map opened_token (take l.spec-index l.specs)
