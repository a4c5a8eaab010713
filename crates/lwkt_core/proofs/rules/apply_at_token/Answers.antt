use Rattle.std.proofs.Common.{arith, sym, ◌∙◌, ap, set}
use Rattle.lwkt_core.specs.Events.{cpu_of}
use Rattle.lwkt_core.specs.Tokens.{token_after, TokenNeeds}
use Rattle.lwkt_core.specs.declared.tokens.Token.{Token}
use Rattle.lwkt_core.proofs.MachineMoves.{read_at, changed_at, references_le}
use Rattle.lwkt_core.proofs.rules.apply_at_token.Goals as goal

pub apply-requires-clause-few : goal.apply-requires-clause-few
apply-requires-clause-few c = λ adds.
    let tok = c.index_mut-tok.result.now in
    let at = read_at c.args.tokens.now.items c.args.place tok (λ (t : Token). TokenNeeds t c.args.event.now) c.requires.allowed c.index_mut-tok.ensures.value in
    let most = references_le c.args.tokens.now.items (cpu_of c.args.event.now) c.args.place tok at in
    let few = c.requires.few in
    omega (arith, most, few)

pub returns : goal.returns
returns c =
    let tok = c.index_mut-tok.result.now in
    let at = read_at c.args.tokens.now.items c.args.place tok (λ (t : Token). TokenNeeds t c.args.event.now) c.requires.allowed c.index_mut-tok.ensures.value in
    ap (set c.args.tokens.now.items c.args.place) c.apply.ensures ∙ sym (changed_at (λ (t : Token). token_after t c.args.event.now) c.args.tokens.now.items c.args.place tok at)
