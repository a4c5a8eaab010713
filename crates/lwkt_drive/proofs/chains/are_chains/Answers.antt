use Rattle.std.proofs.Common.{◌≡◌, ◌∙◌, List, sym, subst}
use Rattle.std.proofs.lemmas.Bool.{false≢true}
use Rattle.lwkt_core.specs.SectionChain.{RowsAt}
use Rattle.lwkt_drive.specs.declared.stretches.Stretch.{Stretch}
use Rattle.lwkt_drive.specs.Stretches.{Lead}
use Rattle.lwkt_drive.proofs.StretchChains.{stand_chains, stand_sorted}
use Rattle.lwkt_drive.proofs.chains.are_chains.Goals as goal
use Rattle.lwkt_drive.proofs.chains.are_chains.Goals.{then-lead, else-lead}

pub returns : goal.returns
returns c = λ yes sections stand. elim c.if-lead.branch [
  | then-lead w ↦
      let first : RowsAt = c.args.first.now in
      let last : RowsAt = c.args.last.now in
      let sorted : List Stretch = c.sort_unstable_by_key.new.self.items in
      let begun : c.in_ok-rows.rows.items ≡ first = c.in_ok-rows.ensures.items ∙ c.as_slice.ensures in
      let led : Lead c.in_ok-rows.rows.items c.deref.result.now c.lead.new.rows.items = c.lead.ensures w.if-lead.true in
      let come : w.deref-then-lead.result.now ≡ w.as_slice-then-lead.result.now = w.have_come.ensures (sym w.result-is ∙ yes) in
      let end : c.lead.new.rows.items ≡ last = sym w.deref-then-lead.ensures.value ∙ come ∙ w.as_slice-then-lead.ensures in
      let lead : Lead first sorted last =
      subst (λ (r : RowsAt). Lead r sorted last) begun
      (subst (λ (r : RowsAt). Lead c.in_ok-rows.rows.items sorted r) end
      (subst (λ (l : List Stretch). Lead c.in_ok-rows.rows.items l c.lead.new.rows.items) c.deref.ensures.value led)) in
      stand_chains first last sorted sections lead (stand_sorted c.args.stretches.items sorted sections c.sort_unstable_by_key.ensures.permutation stand)
  | else-lead w ↦ absurd (false≢true (sym w.if-lead.false ∙ sym w.result-is ∙ yes))
]
