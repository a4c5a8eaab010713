use Rattle.std.specs.Prelude.{◌≡◌}
use Rattle.lwkt_machine.proofs.RoundMoves.{IsTurning}
use Rattle.lwkt_machine.proofs.machines.Machine.turn_all.Given as goal

abbrev pub invariant-loop-number : goal.invariant-loop-number
invariant-loop-number g l = record {
  bank : l.self.bank ≡ l.initial.self.bank;
  book : l.self.book ≡ l.initial.self.book;
  so_far : IsTurning {B = g.row.B.Denot} g.B.Body.polled l.initial.self l.self l.number l.over;
}
