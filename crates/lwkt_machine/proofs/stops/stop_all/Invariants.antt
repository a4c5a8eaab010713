use Rattle.std.specs.Prelude.{All}
use Rattle.lwkt_bank.specs.Seats.{id_of}
use Rattle.lwkt_drive.specs.Course.{IsAtTables}
use Rattle.lwkt_machine.specs.Ended.{AreSameCpus, HaveStopped}
use Rattle.lwkt_machine.specs.Machines.{Lasts, processors}
use Rattle.lwkt_machine.proofs.stops.stop_all.Given as goal

abbrev pub invariant-loop-number : goal.invariant-loop-number
invariant-loop-number g l = record {
  at : All (IsAtTables {B = g.row.B.Denot} (id_of l.bank) l.book.table) l.cpus;
  kept : All (Lasts {B = g.row.B.Denot} g.B.Lasting.kept) l.cpus;
  same : AreSameCpus {B = g.row.B.Denot} (processors {B = g.row.B.Denot} l.initial.cpus) (processors {B = g.row.B.Denot} l.cpus);
  so_far : HaveStopped {B = g.row.B.Denot} l.number l.initial.cpus l.cpus;
}
