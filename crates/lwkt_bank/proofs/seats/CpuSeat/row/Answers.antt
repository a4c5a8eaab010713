use Rattle.std.proofs.Common.{⊎_elim, ◌≡◌, ℕ, List, set, ap, sym, ◌∙◌, subst, arith, length-set, get_or-set_same, get_or-set_other}
use Rattle.std.specs.Prelude.{slice_index}
use Rattle.std.proofs.lemmas.Bool.{cases_eq}
use Rattle.std.proofs.lemmas.List.{take_all}
use Rattle.lwkt_bank.specs.declared.views.Plan.{Plan}
use Rattle.lwkt_bank.specs.declared.views.TokenEntry.{TokenEntry}
use Rattle.lwkt_bank.specs.Rule.{plan_at}
use Rattle.lwkt_bank.specs.Deeds.{reads_all}
use Rattle.lwkt_bank.specs.Seats.{entry, Knowing}
use Rattle.lwkt_bank.proofs.ChangeMoves.{plan_is, short_row}
use Rattle.lwkt_bank.proofs.CellMoves.{row_more}
use Rattle.lwkt_bank.proofs.seats.CpuSeat.row.Goals as goal

pub loop-cell-preserved : goal.loop-cell-preserved
loop-cell-preserved c =
    let s = c.args.self.now in
    let t = c.args.tok.0 in
    let i = c.loop-cell.invariant in
    let cells : (plan_at s.seat.me.0.plans t).cells ≡ c.cells-cell-end.result = ap (λ (p : Plan). p.cells) (plan_is c.args.bank.now s t c.requires.of) ∙ sym c.cells-cell-end.ensures.is in
    let short = short_row c.args.bank.now s t c.requires.of in
    let long = ((s.kept.each t c.requires.there).long c.requires.held).1 in
    let value : c.load.result ≡ slice_index (entry s t).row c.loop-cell.cell = c.load.ensures.value ∙ ap (λ (e : TokenEntry). slice_index e.row c.loop-cell.cell) i.knowing.changes.here in
    let four = i.four in
    record {
      four = length-set c.loop-cell.values c.loop-cell.cell c.load.result ∙ i.four;
      row = λ k low. ⊎_elim
          (λ (now : k ≡ c.loop-cell.cell).
          let F : ℕ → Type 0 = λ j. slice_index (set c.loop-cell.values c.loop-cell.cell c.load.result) j ≡ slice_index (entry s t).row j in
          subst F (sym now) (get_or-set_same c.loop-cell.values c.loop-cell.cell c.load.result 0 (omega arith) ∙ value))
          (λ before. get_or-set_other c.loop-cell.values c.loop-cell.cell k c.load.result 0 before ∙ i.row k (omega arith))
          (cases_eq k c.loop-cell.cell);
      knowing = row_more s c.loop-cell.self c.load.new.self t c.loop-cell.cell c.load.result (omega arith) value i.knowing c.load.ensures.changes;
    }

pub returns-clause-knowing : goal.returns-clause-knowing
returns-clause-knowing c =
    let s = c.args.self.now in
    let t = c.args.tok.0 in
    let cells : (plan_at s.seat.me.0.plans t).cells ≡ c.cells-cell-end.result = ap (λ (p : Plan). p.cells) (plan_is c.args.bank.now s t c.requires.of) ∙ sym c.cells-cell-end.ensures.is in
    let long = ((s.kept.each t c.requires.there).long c.requires.held).1 in
    let end = c.loop-cell-test.false in
    let F : List ℕ → Type 0 = λ row. Knowing s c.loop-cell.self t (entry s t) (reads_all s.cpu t 0 row) in
    subst F (take_all c.loop-cell.cell (entry s t).row (omega arith)) c.loop-cell.invariant.knowing
