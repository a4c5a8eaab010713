use Rattle.std.proofs.Common.{◌≡◌, take, map}
use Rattle.lwkt_core.specs.Opening.{opened_message}
use Rattle.lwkt_core.proofs.first_states.opened_messages.Given as goal

abbrev pub invariant-loop-spec : goal.invariant-loop-spec
invariant-loop-spec l = l.messages.items ≡ map opened_message (take l.spec-index l.specs)
