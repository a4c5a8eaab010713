use Rattle.std.proofs.Common.{◌≡◌, ◌<◌, ◌≤◌, ℕ, inl, inr, subst, sym, ◌∙◌, arith, get_or, length, List, []}
use Rattle.std.proofs.lemmas.Bool.{false≢true}
use Rattle.std.proofs.lemmas.List.{get_or_default}
use Rattle.lwkt_core.specs.SectionChain.{generation_at}
use Rattle.lwkt_core.proofs.ChainLemmas.{fails-early, up-to-next, settled-more, settled-less, settled-here, fails-end, good-end}
use Rattle.lwkt_core.proofs.sections.follow_all.Goals as goal
use Rattle.lwkt_core.proofs.sections.follow_all.Goals.{then-not-is_at, else-not-is_at, then-index-sections-via-then-index-sections, «then-index-sections-via-else-index-sections+then-not-settled»}

pub returns-then-reached-closing-clause-failed : goal.returns-then-reached-closing-clause-failed
returns-then-reached-closing-clause-failed c =
    let low : c.loop-tok.tok < length c.args.first.now = (let h = c.loop-tok-test.true in let long = c.requires in omega arith) in
    let closing : c.index-last-tok.result ≡ get_or c.args.last.now c.loop-tok.tok ([], 0) = c.index-last-tok.is ∙ get_or_default c.args.last.now c.loop-tok.tok c.index-last-tok.result ([], 0) c.loop-tok-test.true in
    let early : c.follow-reached.result.generation < generation_at c.args.last.now c.loop-tok.tok =
    subst (λ (r : List ℕ × ℕ). c.follow-reached.result.generation < r.1) closing c.if-reached-closing.true in
    fails-early c.args.first.now c.args.last.now c.args.sections.now c.loop-tok.tok c.loop-tok.index c.follow-reached.result.index c.follow-reached.result.row c.follow-reached.result.generation low c.loop-tok.invariant.0 c.follow-reached.ensures.within c.follow-reached.ensures.gone c.follow-reached.ensures.moved early c.follow-reached.ensures.stops

pub loop-tok-preserved : goal.loop-tok-preserved
loop-tok-preserved c =
    let low : c.loop-tok.tok < length c.args.first.now = (let h = c.loop-tok-test.true in let long = c.requires in omega arith) in
    let closing : c.index-last-tok.result ≡ get_or c.args.last.now c.loop-tok.tok ([], 0) = c.index-last-tok.is ∙ get_or_default c.args.last.now c.loop-tok.tok c.index-last-tok.result ([], 0) c.loop-tok-test.true in
    let ended : generation_at c.args.last.now c.loop-tok.tok ≤ c.follow-reached.result.generation =
    subst (λ (r : List ℕ × ℕ). r.1 ≤ c.follow-reached.result.generation) closing c.if-reached-closing.false in
    let next = up-to-next c.args.first.now c.args.last.now c.args.sections.now c.loop-tok.tok c.loop-tok.index c.follow-reached.result.index c.follow-reached.result.row c.follow-reached.result.generation low c.loop-tok.invariant.0 c.follow-reached.ensures.within c.follow-reached.ensures.gone c.follow-reached.ensures.moved ended in
    let more = settled-more c.args.first.now c.args.last.now c.args.sections.now c.loop-tok.tok c.loop-tok.index c.follow-reached.result.index c.follow-reached.result.row c.follow-reached.result.generation low c.loop-tok.invariant.0 c.follow-reached.ensures.within c.follow-reached.ensures.gone c.follow-reached.ensures.moved in
    let less = settled-less c.args.first.now c.args.last.now c.args.sections.now c.loop-tok.tok c.loop-tok.index c.follow-reached.result.index c.follow-reached.result.row c.follow-reached.result.generation low c.loop-tok.invariant.0 c.follow-reached.ensures.within c.follow-reached.ensures.gone c.follow-reached.ensures.moved in
    let here = settled-here c.args.first.now c.args.last.now c.args.sections.now c.loop-tok.tok c.loop-tok.index c.follow-reached.result.index c.follow-reached.result.row c.follow-reached.result.generation low c.loop-tok.invariant.0 c.follow-reached.ensures.within c.follow-reached.ensures.gone c.follow-reached.ensures.moved in
    elim c.if-not-is_at.branch [
      | then-not-is_at w ↦ (
        next,
        (
          λ yes'. absurd (false≢true (sym w.settled-is ∙ yes')),
          λ all. absurd (false≢true (sym w.if-not-is_at.true ∙ c.is_at.ensures.1 (here all ∙ sym closing))),
        ),
      )
      | else-not-is_at w ↦ (
        next,
        (
          λ yes'. more (c.loop-tok.invariant.1.0 (sym w.settled-is ∙ yes')) (c.is_at.ensures.0 w.if-not-is_at.false ∙ closing),
          λ all. w.settled-is ∙ c.loop-tok.invariant.1.1 (less all),
        ),
      )
    ]

pub returns-then-index-sections-clause-failed : goal.returns-then-index-sections-clause-failed
returns-then-index-sections-clause-failed c =
    let fails = fails-end c.args.first.now c.args.last.now c.args.sections.now c.loop-tok.tok c.loop-tok.index c.requires c.loop-tok-test.false c.loop-tok.invariant.0 in
    elim c.then-index-sections.branch [
      | then-index-sections-via-then-index-sections w ↦ fails (inl w.if-index-sections.true)
      | «then-index-sections-via-else-index-sections+then-not-settled» w ↦ fails (inr (λ all. false≢true (sym w.if-not-settled.true ∙ c.loop-tok.invariant.1.1 all)))
    ]

pub returns-clause-chained : goal.returns-clause-chained
returns-clause-chained c = good-end c.args.first.now c.args.last.now c.args.sections.now c.loop-tok.tok c.loop-tok.index c.requires c.loop-tok-test.false c.loop-tok.invariant.0 c.if-index-sections.false (c.loop-tok.invariant.1.0 c.if-not-settled.false)
