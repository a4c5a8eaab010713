use Rattle.std.proofs.Common.{◌≡◌, ◌∙◌, ◌+◌, ◌++◌, ◌∷◌, [], ℕ, List, set, take, get_or, ap, sym, subst}
use Rattle.std.proofs.lemmas.List.{take_more}
use Rattle.lwkt_core.specs.SectionChain.{RowsAt}
use Rattle.lwkt_drive.specs.declared.stretches.Stretch.{Stretch}
use Rattle.lwkt_drive.specs.Stretches.{Follows, Lead}
use Rattle.lwkt_drive.proofs.StretchChains.{lead_more}
use Rattle.lwkt_drive.proofs.chains.lead.Goals as goal

pub loop-stretch-preserved : goal.loop-stretch-preserved
loop-stretch-preserved c =
    let stretches : List Stretch = c.args.stretches.now in
    let rows : RowsAt = c.loop-stretch.rows.items in
    let i : ℕ = c.loop-stretch.stretch-index in
    let s : Stretch = c.stretch-item.result in
    let is : get_or stretches i s ≡ s = sym c.stretch-item.is in
    let on : Follows rows s = subst (λ (r : RowsAt). Follows r s) c.deref.ensures.value (c.follows.ensures c.if-not-follows.false) in
    let more = lead_more c.args.rows.now.items (take i stretches) rows s c.loop-stretch.invariant on in
    let list : take i stretches ++ s ∷ [] ≡ take (i + 1) stretches = ap (λ (x : Stretch). take i stretches ++ x ∷ []) (sym is) ∙ sym (take_more stretches i s c.loop-stretch-test.true) in
    let at : s.tok.0 ≡ c.from.result = sym c.from.ensures in
    let next : s.last + 1 ≡ c.in-Some.next = sym c.in-Some.ensures.1 in
    subst (λ (l : List Stretch). Lead c.args.rows.now.items l (set rows c.from.result (s.after, c.in-Some.next))) list
    (subst (λ (r : RowsAt). Lead c.args.rows.now.items (take i stretches ++ s ∷ []) r) (λ k. set rows (at k) (s.after, next k)) more)
