use Rattle.std.proofs.Common.{◌≡◌, ap, arith}
use Rattle.lwkt_bank.specs.Seats.{id_of}
use Rattle.lwkt_cpu.proofs.DriveMoves.{driven_more, drives_all, drives_over, on_err, short}
use Rattle.lwkt_cpu.specs.Processors.{Processor}
use Rattle.lwkt_cpu.proofs.MailTraceMoves.{mail_then}
use Rattle.lwkt_cpu.proofs.TurnTraceMoves.{made_traced, mail_none_at}
use Rattle.lwkt_cpu.specs.Driving.{DrivesShort}
use Rattle.lwkt_cpu.proofs.cpus.Cpu.drive.Goals as goal

pub returns-in_err-turned-clause-err : goal.returns-in_err-turned-clause-err
returns-in_err-turned-clause-err g c =
    let l = c.loop-made in
    on_err c.from_residual.result (DrivesShort {B = g.row.B.Denot} g.B.Body.polled (id_of c.args.bank.now) c.args.self.now c.turn.new.self c.args.trace.now c.turn.new.trace c.args.limit)
    (short {B = g.row.B.Denot} g.B.Body.polled (id_of c.args.bank.now) c.args.self.now l.self c.turn.new.self c.args.trace.now l.trace c.turn.new.trace l.drove l.made c.args.limit c.loop-made-test.true l.invariant c.in_err-turned.ensures.err.0 c.in_err-turned.ensures.err.1 c.in_err-turned.ensures.refused.1)

pub returns-then-is_last-clause-ok : goal.returns-then-is_last-clause-ok
returns-then-is_last-clause-ok g c =
    let l = c.loop-made in
    drives_over {B = g.row.B.Denot} g.B.Body.polled (id_of c.args.bank.now) c.args.self.now l.self c.turn.new.self c.args.trace.now l.trace c.turn.new.trace l.drove c.count-drove.result c.in_ok-turned.turned l.made c.args.limit c.loop-made-test.true (c.is_last.ensures.yes c.if-is_last.true) c.count-drove.ensures l.invariant c.in_ok-turned.ensures.ok

pub loop-made-preserved : goal.loop-made-preserved
loop-made-preserved g c =
    let l = c.loop-made in
    driven_more {B = g.row.B.Denot} g.B.Body.polled (id_of c.args.bank.now) c.args.self.now l.self c.turn.new.self c.args.trace.now l.trace c.turn.new.trace l.drove c.count-drove.result c.in_ok-turned.turned l.made l.invariant c.in_ok-turned.ensures.ok (c.is_last.ensures.no c.if-is_last.false) c.in_ok-turned.ensures.ok.ran.bank c.in_ok-turned.ensures.ok.ports.seat.table c.count-drove.ensures

pub returns-clause-ok : goal.returns-clause-ok
returns-clause-ok g c =
    let l = c.loop-made in
    let all : l.made ≡ c.args.limit = omega (arith, c.loop-made-test.false, l.auto.made-end) in
    drives_all {B = g.row.B.Denot} g.B.Body.polled (id_of c.args.bank.now) c.args.self.now l.self c.args.trace.now l.trace l.drove l.made c.args.limit all l.invariant

pub returns-in_err-turned-clause-traced : goal.returns-in_err-turned-clause-traced
returns-in_err-turned-clause-traced g c =
    let l = c.loop-made in
    mail_then c.args.self.now.post.seat l.self.post.seat c.turn.new.self.post.seat c.args.trace.now.items l.trace.items c.turn.new.trace.items (made_traced {B = g.row.B.Denot} g.B.Body.polled (id_of c.args.bank.now) c.args.self.now l.self c.args.trace.now l.trace l.invariant.turns l.invariant.made) (mail_none_at l.self.post.seat c.turn.new.self.post.seat l.trace.items c.turn.new.trace.items (ap (λ (x : Processor g.row.B.Denot). x.post.seat) c.in_err-turned.ensures.err.0) c.in_err-turned.ensures.err.1.0)

pub returns-then-is_last-clause-traced : goal.returns-then-is_last-clause-traced
returns-then-is_last-clause-traced g c =
    let l = c.loop-made in
    mail_then c.args.self.now.post.seat l.self.post.seat c.turn.new.self.post.seat c.args.trace.now.items l.trace.items c.turn.new.trace.items (made_traced {B = g.row.B.Denot} g.B.Body.polled (id_of c.args.bank.now) c.args.self.now l.self c.args.trace.now l.trace l.invariant.turns l.invariant.made) c.in_ok-turned.ensures.ok.traced

pub returns-clause-traced : goal.returns-clause-traced
returns-clause-traced g c =
    let l = c.loop-made in
    made_traced {B = g.row.B.Denot} g.B.Body.polled (id_of c.args.bank.now) c.args.self.now l.self c.args.trace.now l.trace l.invariant.turns l.invariant.made
