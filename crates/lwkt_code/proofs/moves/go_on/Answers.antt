use Rattle.std.proofs.Common.{sym, ap, ◌∙◌, subst, ◌<◌}
use Rattle.lwkt_code.specs.declared.locals.Local.{Local}
use Rattle.lwkt_base.specs.declared.asks.Ask.{Ask}
use Rattle.lwkt_code.specs.Next.{ask_from}
use Rattle.lwkt_code.proofs.Walks.{ask_here, ask_on, silent_falls, silent_from}
use Rattle.lwkt_code.proofs.moves.go_on.Goals as goal

pub returns-in-Some-clause-ask : goal.returns-in-Some-clause-ask
returns-in-Some-clause-ask c = sym (ap (λ (r : Ask × Local). r.0) (sym c.loop-ask.invariant ∙ ask_here c.args.steps.now c.loop-ask.local c.in-Some.ask (sym c.in-Some.ensures.asks)))

pub returns-in-Some-clause-local : goal.returns-in-Some-clause-local
returns-in-Some-clause-local c = c.act.ensures.moves ∙ sym (ap (λ (r : Ask × Local). r.1) (sym c.loop-ask.invariant ∙ ask_here c.args.steps.now c.loop-ask.local c.in-Some.ask (sym c.in-Some.ensures.asks)))

pub loop-ask-smaller : goal.loop-ask-smaller
loop-ask-smaller c = subst (λ (s : Local). silent_from c.args.steps.now s < silent_from c.args.steps.now c.loop-ask.local) (sym c.act.ensures.moves) (silent_falls c.args.steps.now c.loop-ask.local c.requires (sym c.in-None.ensures.asks))

pub loop-ask-preserved : goal.loop-ask-preserved
loop-ask-preserved c = ap (ask_from c.args.steps.now) c.act.ensures.moves ∙ (sym (ask_on c.args.steps.now c.loop-ask.local c.requires (sym c.in-None.ensures.asks)) ∙ c.loop-ask.invariant)
