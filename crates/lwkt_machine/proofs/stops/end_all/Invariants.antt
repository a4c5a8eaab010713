use Rattle.std.specs.Prelude.{All}
use Rattle.lwkt_bank.specs.Seats.{id_of}
use Rattle.lwkt_drive.specs.Course.{IsAtTables}
use Rattle.lwkt_machine.specs.Ended.{HaveEnded}
use Rattle.lwkt_machine.specs.Machines.{Lasts}
use Rattle.lwkt_machine.proofs.StopMoves.{AreRoomsFrom}
use Rattle.lwkt_machine.proofs.stops.end_all.Given as goal

abbrev pub invariant-loop-number : goal.invariant-loop-number
invariant-loop-number g l = record {
  at : All (IsAtTables {B = g.row.B.Denot} (id_of l.bank) l.book.table) l.cpus;
  kept : All (Lasts {B = g.row.B.Denot} g.B.Lasting.kept) l.cpus;
  rooms : AreRoomsFrom l.number l.stops;
  so_far : HaveEnded {B = g.row.B.Denot} l.number l.initial.cpus l.cpus l.stops;
}
