use Rattle.std.proofs.Common.{List, ap, sym, ◌∙◌, Bool}
use Rattle.std.specs.Prelude.{if◌then◌else◌}
use Rattle.lwkt_base.specs.declared.names.Ref.{Ref}
use Rattle.lwkt_base.specs.declared.asks.Answer.TheVariants.{Done, Refused}
use Rattle.lwkt_base.specs.declared.faults.Fault.TheVariants.{Broken}
use Rattle.lwkt_core.specs.declared.tokens.Token.{Token}
use Rattle.lwkt_core.specs.Machine.{changed}
use Rattle.lwkt_plain.specs.declared.nexts.Next.TheVariants.{Runs}
use Rattle.lwkt_plain.specs.Tokens.{given}
use Rattle.lwkt_plain.specs.TokenAsks.{asked}
use Rattle.lwkt_plain.proofs.AskLists.{rel_ok, rel_refused}
use Rattle.lwkt_plain.proofs.token_asks.rel.Goals as goal

pub returns-in-Err : goal.returns-in-Err
returns-in-Err c =
    ap (λ (refs : List Ref). asked c.args.tokens.now refs c.refused.result) c.in-Err.ensures.err
    ∙ ap (asked c.args.tokens.now c.args.list.now) c.refused.ensures
    ∙ sym (rel_refused c.args.cpu c.args.tokens.now c.args.list.now c.args.tok c.in-Err.fault c.in-Err.ensures.not_held c.in-Err.ensures.not_last c.in-Err.ensures.only)

pub returns-in-Ok : goal.returns-in-Ok
returns-in-Ok c =
    let last = c.in-Ok.last in
    let new = c.pop.new.self in
    ap (λ (tokens : List Token). asked tokens new c.released.result) c.give.ensures.tokens
    ∙ ap (asked (changed (given c.args.cpu last.tok) c.args.tokens.now last.tok.0) new)
    (c.released.ensures ∙ ap (λ (b : Bool). Runs (if b then Refused Broken else Done)) c.give.ensures.broken)
    ∙ sym (rel_ok c.args.cpu c.args.tokens.now c.args.list.now new last c.args.tok c.in-Ok.ensures.ok.0 c.in-Ok.ensures.ok.1)
