use Rattle.std.proofs.Common.{◌≡◌, ◌∙◌, take, ap, sym, arith}
use Rattle.lwkt_bank.specs.declared.views.Plan.{Plan}
use Rattle.lwkt_bank.specs.Rule.{plan_at}
use Rattle.lwkt_bank.specs.Seats.{entry}
use Rattle.lwkt_bank.proofs.ChangeMoves.{plan_is, short_row, cells_read}
use Rattle.lwkt_bank.proofs.TurnMoves.{exclusive_held}
use Rattle.lwkt_bank.proofs.seats.CpuSeat.both_rows.Goals as goal

pub returns-clause-first : goal.returns-clause-first
returns-clause-first c =
    let s = c.args.self.now in
    let t = c.args.tok.0 in
    let r = c.both_cells in
    let cells : c.cells-cells.result ≡ (plan_at s.seat.me.0.plans t).cells = c.cells-cells.ensures.is ∙ sym (ap (λ (p : Plan). p.cells) (plan_is c.args.bank.now s t c.requires.of)) in
    let short = short_row c.args.bank.now s t c.requires.of in
    let long = (s.kept.each t c.requires.there).long (exclusive_held (entry s t).held c.requires.held) in
    let before : take c.cells-cells.result r.result.0 ≡ (entry s t).first
    = cells_read r.result.0 (entry s t).first c.cells-cells.result (long.0 ∙ sym cells) (omega arith) r.ensures.four.0 (λ cell low. r.ensures.first cell (omega arith)) in
    c.of.ensures ∙ before

pub returns-clause-row : goal.returns-clause-row
returns-clause-row c =
    let s = c.args.self.now in
    let t = c.args.tok.0 in
    let r = c.both_cells in
    let cells : c.cells-cells.result ≡ (plan_at s.seat.me.0.plans t).cells = c.cells-cells.ensures.is ∙ sym (ap (λ (p : Plan). p.cells) (plan_is c.args.bank.now s t c.requires.of)) in
    let short = short_row c.args.bank.now s t c.requires.of in
    let long = (s.kept.each t c.requires.there).long (exclusive_held (entry s t).held c.requires.held) in
    let after : take c.cells-cells.result r.result.1 ≡ (entry s t).row
    = cells_read r.result.1 (entry s t).row c.cells-cells.result (long.1 ∙ sym cells) (omega arith) r.ensures.four.1 (λ cell low. r.ensures.row cell (omega arith)) in
    c.of-2.ensures ∙ after
