use Rattle.std.proofs.Common.{ap, sym, ◌∙◌, ◌≡◌, arith}
use Rattle.lwkt_bank.specs.declared.views.Plan.{Plan}
use Rattle.lwkt_bank.specs.Rule.{plan_at}
use Rattle.lwkt_bank.specs.Seats.{entry}
use Rattle.lwkt_bank.proofs.TurnMoves.{exclusive_held}
use Rattle.lwkt_bank.proofs.ChangeMoves.{plan_is, short_row}
use Rattle.lwkt_bank.proofs.RowMoves.{restoring_more, restored_all}
use Rattle.lwkt_bank.proofs.seats.CpuSeat.restore_cells.Goals as goal

pub loop-cell-preserved : goal.loop-cell-preserved
loop-cell-preserved c =
    let s = c.args.self.now in
    let t = c.args.tok.0 in
    let cells : (plan_at s.seat.me.0.plans t).cells ≡ c.cells-cell-end.result = ap (λ (p : Plan). p.cells) (plan_is c.args.bank.now s t c.requires.of) ∙ sym c.cells-cell-end.ensures.is in
    let short = short_row c.args.bank.now s t c.requires.of in
    let long = ((s.kept.each t c.requires.there).long (exclusive_held (entry s t).held c.requires.held)).1 in
    restoring_more s c.loop-cell.self c.restore_cell.new.self t c.loop-cell.made c.loop-cell.cell c.restore_cell.result c.loop-cell.invariant (omega arith) (omega arith) c.restore_cell.ensures

pub returns : goal.returns
returns c =
    let s = c.args.self.now in
    let t = c.args.tok.0 in
    let cells : (plan_at s.seat.me.0.plans t).cells ≡ c.cells-cell-end.result = ap (λ (p : Plan). p.cells) (plan_is c.args.bank.now s t c.requires.of) ∙ sym c.cells-cell-end.ensures.is in
    restored_all s c.loop-cell.self t c.loop-cell.made c.loop-cell.cell c.loop-cell.invariant c.requires.there (exclusive_held (entry s t).held c.requires.held) (let short = short_row c.args.bank.now s t c.requires.of in omega arith) (omega arith)
