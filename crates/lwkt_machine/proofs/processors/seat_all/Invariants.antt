use Rattle.std.proofs.Common.{◌≡◌, ◌+◌, ◌≤◌, length}
use Rattle.std.specs.Prelude.{All}
use Rattle.lwkt_bank.specs.Seats.{id_of}
use Rattle.lwkt_lane.specs.Crossed.{IsLeft}
use Rattle.lwkt_cpu.specs.Wiring.{HaveLines}
use Rattle.lwkt_machine.specs.Seating.{IsRest, AreLeft}
use Rattle.lwkt_machine.specs.Machines.{processors}
use Rattle.lwkt_machine.specs.Opened.{AreOpenedCpus}
use Rattle.lwkt_machine.proofs.processors.seat_all.Given as goal

abbrev pub invariant-loop-number : goal.invariant-loop-number
invariant-loop-number g l = record {
  rest : IsRest (id_of l.bank) l.book l.number l.rest;
  lists_are : length l.left.items ≡ length l.rest.seats.items;
  few : All (λ v. length v.items ≤ 16) l.left.items;
  left_are : length l.left.items + l.number ≡ length l.initial.left.items;
  made : length l.cpus.items ≡ l.number;
  gone : AreLeft l.number l.initial.rest l.rest;
  lists_gone : IsLeft l.number l.initial.left.items l.left.items;
  each : AreOpenedCpus {B = g.row.B.Denot} (id_of l.bank) l.book l.initial.left.items l.cpus.items;
  lines : HaveLines {B = g.row.B.Denot} l.initial.rest.outs.items l.initial.rest.ins.items (processors {B = g.row.B.Denot} l.cpus.items);
}
