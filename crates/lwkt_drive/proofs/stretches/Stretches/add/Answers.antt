use Rattle.std.proofs.Common.{◌≡◌, ◌∙◌, ℕ, ◌<◌, ◌++◌, ◌∷◌, [], List, length, set, get_or, ap, sym, subst, arith, refl}
use Rattle.std.proofs.lemmas.List.{get_or_default}
use Rattle.lwkt_base.specs.declared.sections.Section.{Section}
use Rattle.lwkt_drive.specs.declared.stretches.Stretch.{Stretch}
use Rattle.lwkt_drive.specs.Stretches.{GoesOnFrom, longer, StandFor}
use Rattle.lwkt_drive.proofs.StretchMoves.{made_longer}
use Rattle.lwkt_drive.proofs.stretches.Stretches.add.Goals as goal

pub returns-then-goes_on : goal.returns-then-goes_on
returns-then-goes_on c = λ sections stand.
    let items : List Stretch = c.self.inside.items.items in
    let at : ℕ = get_or c.self.inside.lasts c.from-tok.result 0 in
    let s : Section = c.args.section.now in
    let d : Stretch = c.index_mut.result.now in
    let low : at < length items = omega (arith, c.if-at-len.true, c.len.ensures) in
    let is : get_or items at d ≡ d = sym c.index_mut.ensures.value in
    let goes : GoesOnFrom (get_or items at d) s = subst (λ (x : Stretch). GoesOnFrom x s) (c.index.ensures ∙ get_or_default items at c.index.result.now d low) (c.if-goes_on.ensures refl) in
    let more = made_longer items sections at d s low goes (subst (λ (l : List Stretch). StandFor l sections) (sym c.self.view_is) stand) in
    subst (λ (x : Stretch). StandFor (set items at x) (sections ++ s ∷ [])) (ap (λ (x : Stretch). longer x s) is ∙ sym c.go_on.ensures) more
