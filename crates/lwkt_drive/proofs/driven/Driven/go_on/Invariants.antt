use Rattle.lwkt_bank.specs.Seats.{id_of}
use Rattle.lwkt_drive.proofs.CourseMoves.{IsGoing}
use Rattle.lwkt_drive.proofs.driven.Driven.go_on.Given as goal

abbrev pub invariant-loop-turn : goal.invariant-loop-turn
invariant-loop-turn g l = IsGoing {B = g.row.B.Denot} g.B.Body.polled (g.G.Gate.answers l.door.gate.now) (id_of l.bank) l.book.table l.limits l.initial.self l.self l.turn
