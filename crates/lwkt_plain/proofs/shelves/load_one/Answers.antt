use Rattle.std.proofs.Common.{◌≡◌, List, subst, sym, ◌∙◌, slice_set, slice_index_or}
use Rattle.std.proofs.lemmas.List.{get_or_read}
use Rattle.lwkt_plain.specs.Tables.{IsNamed, AreNamed}
use Rattle.lwkt_plain.proofs.TableLemmas.{set_again, set_named}
use Rattle.lwkt_plain.proofs.shelves.load_one.Goals as goal
use Rattle.lwkt_plain.proofs.shelves.load_one.Goals.{then-index-number+in_ok-copy, else-index-number}

pub returns-clause-named : goal.returns-clause-named
returns-clause-named g c =
    let table = c.args.table.now.parts.items in
    let parts = c.args.parts.now in
    let numbers = c.args.numbers.now.items in
    let k = c.args.k in
    let n = c.args.number in
    let F : List g.row.P.Denot → Type 0 = λ ps. AreNamed table ps (slice_set numbers k n) in
    elim c.if-index-number.branch [
      | then-index-number+in_ok-copy w ↦
          let N : g.row.P.Denot → Type 0 = λ p. IsNamed table n p in
          let is : IsNamed table n w.in_ok-copy.copy = subst N (sym w.in_ok-copy.ensures) w.part.ensures in
          subst F (sym (w.parts-is ∙ w.put.ensures)) (set_named table parts numbers k n w.in_ok-copy.copy c.requires.named c.requires.there is)
      | else-index-number w ↦
          let read : slice_index_or numbers k 0 ≡ n = sym (get_or_read numbers k c.index.result.now c.requires.there c.index.ensures 0) ∙ w.if-index-number.false in
          subst F (sym w.parts-is) (set_again table parts numbers k n c.requires.named c.requires.there read)
    ]
