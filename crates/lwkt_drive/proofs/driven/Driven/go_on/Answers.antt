use Rattle.std.proofs.Common.{arith}
use Rattle.lwkt_bank.specs.Seats.{id_of}
use Rattle.lwkt_drive.proofs.CourseMoves.{going_one, going_to, going_out, comes_more, comes_within}
use Rattle.lwkt_drive.proofs.driven.Driven.go_on.Goals as goal

pub returns-in-Some-clause-goes : goal.returns-in-Some-clause-goes
returns-in-Some-clause-goes g c =
    let l = c.loop-turn in
    going_to {B = g.row.B.Denot} g.B.Body.polled (g.G.Gate.answers c.args.door.now.gate.now) (id_of c.args.bank.now) c.args.book.now.table c.args.limits.now c.args.self.now l.self c.step.new.self l.turn c.in-Some.ending l.invariant c.in-Some.ensures.some c.step.ensures.same

pub returns-in-Some-clause-more : goal.returns-in-Some-clause-more
returns-in-Some-clause-more g c =
    let l = c.loop-turn in
    comes_more {B = g.row.B.Denot} g.B.Body.polled (g.G.Gate.answers c.args.door.now.gate.now) (id_of c.args.bank.now) c.args.book.now.table c.args.limits.now c.args.self.now l.self c.step.new.self l.turn c.in-Some.ending l.invariant c.in-Some.ensures.some

pub returns-in-Some-clause-within : goal.returns-in-Some-clause-within
returns-in-Some-clause-within g c =
    let l = c.loop-turn in
    comes_within {B = g.row.B.Denot} g.B.Body.polled (g.G.Gate.answers c.args.door.now.gate.now) (id_of c.args.bank.now) c.args.book.now.table c.args.limits.now c.args.self.now l.self c.step.new.self l.turn c.in-Some.ending l.invariant c.in-Some.ensures.some

pub loop-turn-preserved : goal.loop-turn-preserved
loop-turn-preserved g c =
    let l = c.loop-turn in
    going_one {B = g.row.B.Denot} g.B.Body.polled (g.G.Gate.answers c.args.door.now.gate.now) (id_of c.args.bank.now) c.args.book.now.table c.args.limits.now c.args.self.now l.self c.step.new.self l.turn l.invariant (c.step.ensures.none c.in_default.is) c.step.ensures.at c.step.ensures.same

pub returns-clause-goes : goal.returns-clause-goes
returns-clause-goes g c =
    let l = c.loop-turn in
    going_out {B = g.row.B.Denot} g.B.Body.polled (g.G.Gate.answers c.args.door.now.gate.now) (id_of c.args.bank.now) c.args.book.now.table c.args.limits.now c.args.self.now l.self l.turn (omega arith) l.invariant
