use Rattle.std.proofs.Common.{⊎_elim, ◌≡◌, ◌+◌, ◌<◌, ℕ, length, List, set, ap, sym, ◌∙◌, subst, arith, length-set, get_or-set_same, get_or-set_other}
use Rattle.std.specs.Prelude.{slice_index}
use Rattle.std.proofs.lemmas.Bool.{cases_eq}
use Rattle.lwkt_bank.specs.declared.views.Plan.{Plan}
use Rattle.lwkt_bank.specs.declared.views.TokenEntry.{TokenEntry}
use Rattle.lwkt_bank.specs.Rule.{plan_at}
use Rattle.lwkt_bank.specs.Seats.{entry}
use Rattle.lwkt_bank.proofs.ChangeMoves.{plan_is, short_row}
use Rattle.lwkt_bank.proofs.CellMoves.{loads_more}
use Rattle.lwkt_bank.proofs.seats.CpuSeat.both_cells.Goals as goal

-- one cell more of a list that is to have the cells of a row
filled : (values row : List ℕ) (cell value : ℕ) → cell < length values → value ≡ slice_index row cell → ((k : ℕ) → k < cell → slice_index values k ≡ slice_index row k) → (k : ℕ) → k < cell + 1 → slice_index (set values cell value) k ≡ slice_index row k
filled values row cell value inside is before k low = ⊎_elim
    (λ (now : k ≡ cell).
    let F : ℕ → Type 0 = λ j. slice_index (set values cell value) j ≡ slice_index row j in
    subst F (sym now) (get_or-set_same values cell value 0 inside ∙ is))
    (λ away. get_or-set_other values cell k value 0 away ∙ before k (omega arith))
    (cases_eq k cell)

pub loop-cell-preserved : goal.loop-cell-preserved
loop-cell-preserved c =
    let s = c.args.self.now in
    let t = c.args.tok.0 in
    let i = c.loop-cell.invariant in
    let cell = c.loop-cell.cell in
    let change = c.change_of-first.result in
    let cells : (plan_at s.seat.me.0.plans t).cells ≡ c.cells-cell-end.result = ap (λ (p : Plan). p.cells) (plan_is c.args.bank.now s t c.requires.of) ∙ sym c.cells-cell-end.ensures.is in
    let short = short_row c.args.bank.now s t c.requires.of in
    let test = c.loop-cell-test.true in
    let first : change.first ≡ slice_index (entry s t).first cell = c.change_of-first.ensures.first ∙ ap (λ (e : TokenEntry). slice_index e.first cell) i.knowing.changes.here in
    let last : change.last ≡ slice_index (entry s t).row cell = c.change_of-first.ensures.last ∙ ap (λ (e : TokenEntry). slice_index e.row cell) i.knowing.changes.here in
    let before_long = i.four.0 in
    let after_long = i.four.1 in
    record {
      four = (length-set c.loop-cell.before cell change.first ∙ i.four.0, length-set c.loop-cell.after cell change.last ∙ i.four.1);
      first = filled c.loop-cell.before (entry s t).first cell change.first (omega arith) first i.first;
      row = filled c.loop-cell.after (entry s t).row cell change.last (omega arith) last i.row;
      knowing = loads_more s c.loop-cell.self c.change_of-first.new.self t cell i.knowing c.change_of-first.ensures.knowing;
    }
