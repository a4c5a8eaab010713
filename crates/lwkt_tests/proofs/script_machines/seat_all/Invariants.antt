use Rattle.std.specs.Prelude.{◌≡◌, ◌+◌, All, length}
use Rattle.lwkt_bank.specs.Seats.{id_of}
use Rattle.lwkt_machine.specs.Machines.{IsOfMachine}
use Rattle.lwkt_machine.specs.Seating.{IsRest}
use Rattle.lwkt_tests.proofs.script_machines.seat_all.Given as goal

abbrev pub invariant-loop-number : goal.invariant-loop-number
invariant-loop-number l = record {
  rest : IsRest (id_of l.bank) l.book l.number l.rest;
  left : length l.rest.seats.items + l.number ≡ length l.initial.rest.seats.items;
  of : All (IsOfMachine (id_of l.bank) l.book) l.cpus.items;
}
