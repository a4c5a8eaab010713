use Rattle.std.proofs.Common.{ap, sym, ◌∙◌, Option, Some}
use Rattle.lwkt_plain.specs.TokenAsks.{Asked, get}
use Rattle.lwkt_plain.specs.Turns.{token_ask}
use Rattle.lwkt_plain.proofs.turns.ask_tokens.Goals as goal

pub returns-in-GetShared-clause-asks : goal.returns-in-GetShared-clause-asks
returns-in-GetShared-clause-asks c =
    ap (λ (a : Asked). Some a) (c.get-in-GetShared.ensures ∙ ap (get c.args.cpu c.args.tokens.now c.args.list.now) c.reference-in-GetShared.ensures)
    ∙ sym (ap (token_ask c.args.cpu c.args.tokens.now c.args.list.now) c.in-GetShared.is)
