use Rattle.std.specs.Prelude.{◌≡◌}
use Rattle.lwkt_machine.proofs.RoundMoves.{IsRunning}
use Rattle.lwkt_machine.proofs.machines.Machine.run.Given as goal

abbrev pub invariant-loop-made : goal.invariant-loop-made
invariant-loop-made g l = record {
  bank : l.self.bank ≡ l.initial.self.bank;
  book : l.self.book ≡ l.initial.self.book;
  so_far : IsRunning {B = g.row.B.Denot} g.B.Body.polled l.initial.self l.self l._made;
}
