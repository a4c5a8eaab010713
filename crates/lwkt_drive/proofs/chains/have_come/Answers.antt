use Rattle.std.proofs.Common.{◌≡◌, ◌∙◌, ◌<◌, ◌++◌, ◌∷◌, [], ℕ, List, length, get_or, sym, arith}
use Rattle.std.proofs.lemmas.List.{take_more, get_or_default}
use Rattle.lwkt_core.specs.SectionChain.{RowsAt}
use Rattle.lwkt_drive.proofs.chains.have_come.Goals as goal

pub loop-i-preserved : goal.loop-i-preserved
loop-i-preserved c =
    let rows : RowsAt = c.args.rows.now in
    let last : RowsAt = c.args.last.now in
    let i : ℕ = c.loop-i.i in
    let r : List ℕ × ℕ = c.index-rows-i.result in
    let l : List ℕ × ℕ = c.index-last-i.result in
    let low : i < length rows = c.loop-i-test.true in
    let also : i < length last = omega (arith, low, c.if-rows-last.false) in
    let same : get_or rows i r ≡ get_or last i r = sym c.index-rows-i.is ∙ c.is_at.ensures c.if-not-is_at.false ∙ c.index-last-i.is ∙ get_or_default last i l r also in
    take_more rows i r low ∙ (λ k. c.loop-i.invariant k ++ same k ∷ []) ∙ sym (take_more last i r also)
