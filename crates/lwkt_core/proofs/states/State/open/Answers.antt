use Rattle.lwkt_core.proofs.OpeningLemmas.{IsSafe_opened}
use Rattle.lwkt_core.proofs.states.State.open.Goals as goal

pub invariant_of-result : goal.invariant_of-result
invariant_of-result c =
    IsSafe_opened c.args.cpus c.args.tokens.now c.args.messages.now c.in_ok-opened_tokens.opened_tokens.items c.in_ok-opened_messages.opened_messages.items
    c.in_ok-opened_tokens.ensures c.in_ok-opened_messages.ensures (c.are_within.ensures.0 c.if-not-are_within.false) (c.all_open_lawfully.ensures.0 c.if-not-all_open_lawfully.false)
