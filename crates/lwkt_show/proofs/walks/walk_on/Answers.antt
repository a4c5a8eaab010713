use Rattle.std.proofs.Common.{◌<◌, Option, List, slice_get, sym, ap, ◌∙◌, subst}
use Rattle.lwkt_base.specs.declared.asks.Ask.{Ask}
use Rattle.lwkt_code.specs.declared.locals.Local.{Local}
use Rattle.lwkt_code.specs.Next.{ask_from, moved}
use Rattle.lwkt_code.proofs.Walks.{ask_here, ask_on, silent_falls, silent_from}
use Rattle.lwkt_show.specs.declared.walks.Made.{Made}
use Rattle.lwkt_show.specs.Computed.{made_by}
use Rattle.lwkt_show.specs.Keeping.{one_or_none, made_from, KeepsAll}
use Rattle.lwkt_show.proofs.Ahead.{made_here, made_on, keeps_nothing, keeps_twice}
use Rattle.lwkt_show.proofs.walks.walk_on.Goals as goal

pub returns-in-Some-clause-ask : goal.returns-in-Some-clause-ask
returns-in-Some-clause-ask c = sym (ap (λ (r : Ask × Local). r.0) (sym c.loop-ask.invariant.0 ∙ ask_here c.args.steps.now c.loop-ask.local c.in-Some.ask (sym c.in-Some.ensures.asks)))

pub returns-in-Some-clause-local : goal.returns-in-Some-clause-local
returns-in-Some-clause-local c = c.act.ensures.moves ∙ sym (ap (λ (r : Ask × Local). r.1) (sym c.loop-ask.invariant.0 ∙ ask_here c.args.steps.now c.loop-ask.local c.in-Some.ask (sym c.in-Some.ensures.asks)))

pub returns-in-Some-clause-kept : goal.returns-in-Some-clause-kept
returns-in-Some-clause-kept c =
    let none = made_here c.args.steps.now c.loop-ask.local c.in-Some.ask (sym c.in-Some.ensures.asks) in
    c.loop-ask.invariant.1 c.loop-ask.kept (subst (λ (made : List Made). KeepsAll c.loop-ask.kept c.loop-ask.kept made) (sym none) (keeps_nothing c.loop-ask.kept))

pub loop-ask-smaller : goal.loop-ask-smaller
loop-ask-smaller c = subst (λ (s : Local). silent_from c.args.steps.now s < silent_from c.args.steps.now c.loop-ask.local) (sym c.act.ensures.moves) (silent_falls c.args.steps.now c.loop-ask.local c.requires (sym c.in-None.ensures.asks))

pub loop-ask-preserved : goal.loop-ask-preserved
loop-ask-preserved c =
    let steps = c.args.steps.now in
    let s : Local = c.loop-ask.local in
    let o = slice_get steps s.at in
    let kept = c.loop-ask.kept in
    let next = c.keep.new.self in
    let made : List Made = one_or_none (made_by o s.at (moved o s).vars) in
    let first : KeepsAll kept next made =
    subst (λ (one : Option Made). KeepsAll kept next (one_or_none one)) (c.made_by.ensures ∙ ap (λ (t : Local). made_by o s.at t.vars) c.act.ensures.moves) c.keep.ensures in
    let ahead = made_on steps s c.requires (sym c.in-None.ensures.asks) in (
      ap (ask_from steps) c.act.ensures.moves ∙ (sym (ask_on steps s c.requires (sym c.in-None.ensures.asks)) ∙ c.loop-ask.invariant.0),
      λ final rest. c.loop-ask.invariant.1 final (subst (λ (all : List Made). KeepsAll kept final all) (sym ahead)
          (keeps_twice kept next final made (made_from steps (moved o s)) first (subst (λ (t : Local). KeepsAll next final (made_from steps t)) c.act.ensures.moves rest))),
    )
