use Rattle.std.proofs.Common.{◌+◌, arith, rules}
use Rattle.lwkt_bank.specs.Seats.{id_of}
use Rattle.lwkt_drive.proofs.CourseMoves.{are_none, are_more, are_ended, are_out}
use Rattle.lwkt_drive.proofs.slices.drive_slices.Goals as goal

pub loop-number-init : goal.loop-number-init
loop-number-init g c = are_none {B = g.row.B.Denot} g.B.Body.polled (g.G.Gate.answers c.args.door.now.gate.now) (id_of c.args.bank.now) c.args.book.now.table c.args.limits.now c.args.all.now c.requires.at c.requires.within

pub returns-then-not-is_one_left-clause-out : goal.returns-then-not-is_one_left-clause-out
returns-then-not-is_one_left-clause-out g c =
    let l = c.loop-number in
    let s = c.drive_slice in
    let more = are_more {B = g.row.B.Denot} g.B.Body.polled (g.G.Gate.answers c.args.door.now.gate.now) (id_of c.args.bank.now) c.args.book.now.table c.args.limits.now c.args.all.now l.all s.new.all l.number l.invariant s.ensures.on s.ensures.at s.ensures.within in
    let none = c.is_one_left.ensures in
    are_ended {B = g.row.B.Denot} g.B.Body.polled (g.G.Gate.answers c.args.door.now.gate.now) (id_of c.args.bank.now) c.args.book.now.table c.args.limits.now c.args.all.now s.new.all (l.number + 1) more (none (search rules))

pub loop-number-preserved : goal.loop-number-preserved
loop-number-preserved g c =
    let l = c.loop-number in
    let s = c.drive_slice in
    are_more {B = g.row.B.Denot} g.B.Body.polled (g.G.Gate.answers c.args.door.now.gate.now) (id_of c.args.bank.now) c.args.book.now.table c.args.limits.now c.args.all.now l.all s.new.all l.number l.invariant s.ensures.on s.ensures.at s.ensures.within

pub returns-clause-out : goal.returns-clause-out
returns-clause-out g c =
    let l = c.loop-number in
    are_out {B = g.row.B.Denot} g.B.Body.polled (g.G.Gate.answers c.args.door.now.gate.now) (id_of c.args.bank.now) c.args.book.now.table c.args.limits.now c.args.all.now l.all l.number (omega arith) l.invariant
