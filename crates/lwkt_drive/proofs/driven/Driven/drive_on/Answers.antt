use Rattle.lwkt_bank.specs.Seats.{id_of}
use Rattle.lwkt_drive.proofs.CourseMoves.{drives_more}
use Rattle.lwkt_drive.proofs.driven.Driven.drive_on.Goals as goal

pub returns-then-has_ended-2-clause-on : goal.returns-then-has_ended-2-clause-on
returns-then-has_ended-2-clause-on g c =
    drives_more {B = g.row.B.Denot} g.B.Body.polled (g.G.Gate.answers c.args.door.now.gate.now) (id_of c.args.bank.now) c.args.limits.now c.args.self.now c.go_on-self.new.self c.go_on-self.result (c.has_ended.ensures.no c.if-has_ended.false) c.go_on-self.ensures.goes c.go_on-self.ensures.more

pub returns-else-has_ended-2-clause-on : goal.returns-else-has_ended-2-clause-on
returns-else-has_ended-2-clause-on g c =
    drives_more {B = g.row.B.Denot} g.B.Body.polled (g.G.Gate.answers c.args.door.now.gate.now) (id_of c.args.bank.now) c.args.limits.now c.args.self.now c.go_on-self.new.self c.go_on-self.result (c.has_ended.ensures.no c.if-has_ended.false) c.go_on-self.ensures.goes c.go_on-self.ensures.more
