use Rattle.std.proofs.Common.{◌≡◌, ◌+◌, length}
use Rattle.lwkt_machine.specs.Ended.{HasRoom}
use Rattle.lwkt_machine.proofs.RetireMoves.{IsRetiring}
use Rattle.lwkt_machine.proofs.closings.Gathered.all.Given as goal

abbrev pub invariant-loop-number : goal.invariant-loop-number
invariant-loop-number g l = record {
  so_far : IsRetiring {B = g.row.B.Denot} l.initial.cpus.items l.cpus.items l.all;
  room : HasRoom {B = g.row.B.Denot} (length l.cpus.items) l.all;
  left : length l.cpus.items + l._number ≡ length l.initial.cpus.items;
}
