use Rattle.std.proofs.Common.{◌∙◌, ap, ℕ, ◌+◌}
use Rattle.lwkt_bank.proofs.CellMoves.{raised_after}
use Rattle.lwkt_bank.proofs.seats.CpuSeat.add.Goals as goal

pub returns-clause-ok : goal.returns-clause-ok
returns-clause-ok c =
    raised_after c.args.self.now c.tally_cell-first.new.self c.raise.new.self c.args.tok.0 c.args.k c.in-Some.sum _ (c.in-Some.ensures.1 ∙ ap (λ (x : ℕ). x + c.args.k) c.tally_cell-first.ensures.last) c.tally_cell-first.ensures.knowing c.raise.ensures
