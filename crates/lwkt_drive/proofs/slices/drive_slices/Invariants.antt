use Rattle.lwkt_bank.specs.Seats.{id_of}
use Rattle.lwkt_drive.proofs.CourseMoves.{AreGoing}
use Rattle.lwkt_drive.proofs.slices.drive_slices.Given as goal

abbrev pub invariant-loop-number : goal.invariant-loop-number
invariant-loop-number g l = AreGoing {B = g.row.B.Denot} g.B.Body.polled (g.G.Gate.answers l.door.gate.now) (id_of l.bank) l.book.table l.limits l.initial.all l.all l.number
