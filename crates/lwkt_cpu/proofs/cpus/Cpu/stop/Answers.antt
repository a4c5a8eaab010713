use Rattle.std.proofs.Common.{List, subst}
use Rattle.lwkt_core.specs.declared.events.Event.{Event}
use Rattle.lwkt_hold.proofs.RunMoves.{ran_with_room}
use Rattle.lwkt_hold.proofs.ReadMoves.{ran_still}
use Rattle.lwkt_cpu.specs.Traced.{TracesMail}
use Rattle.lwkt_cpu.proofs.MailTraceMoves.{mail_none}
use Rattle.lwkt_cpu.specs.Turning.{IsMailed}
use Rattle.lwkt_cpu.proofs.StopMoves.{stop_from_room}
use Rattle.lwkt_cpu.proofs.TurnTraceMoves.{quiet_items}
use Rattle.lwkt_cpu.proofs.WakeMoves.{post_none}
use Rattle.lwkt_cpu.proofs.cpus.Cpu.stop.Goals as goal

pub returns-in_err-reserve-clause-ran : goal.returns-in_err-reserve-clause-ran
returns-in_err-reserve-clause-ran g c =
    let p = c.args.self.now in
    let r = c.reserve.new.list in
    let e = c.reserve.ensures in
    ran_with_room (IsMailed p.threads) 258 p.seat p.seat c.args.trace.now r r e.items e.len e.capacity (ran_still (IsMailed p.threads) 258 p.seat r)

pub returns-in_err-reserve-clause-traced : goal.returns-in_err-reserve-clause-traced
returns-in_err-reserve-clause-traced g c = mail_none c.args.self.now.post.seat c.args.trace.now.items c.reserve.new.list.items (quiet_items c.args.trace.now.items c.reserve.new.list.items c.reserve.ensures.items)

pub returns-in_err-reserve-clause-same : goal.returns-in_err-reserve-clause-same
returns-in_err-reserve-clause-same g c = post_none c.args.self.now.post

pub returns-clause-ok : goal.returns-clause-ok
returns-clause-ok g c =
    let s = c.stop_in_room in
    stop_from_room {B = g.row.B.Denot} c.args.self.now s.new.self c.args.trace.now c.reserve.new.list s.new.trace c.reserve.ensures.items s.ensures.stops

pub returns-clause-ran : goal.returns-clause-ran
returns-clause-ran g c =
    let p = c.args.self.now in
    let s = c.stop_in_room in
    let e = c.reserve.ensures in
    ran_with_room (IsMailed p.threads) 258 p.seat s.new.self.seat c.args.trace.now c.reserve.new.list s.new.trace e.items e.len e.capacity s.ensures.ran

pub returns-clause-traced : goal.returns-clause-traced
returns-clause-traced g c =
    let s = c.stop_in_room in
    let F : List Event → Type 0 = λ xs. TracesMail c.args.self.now.post.seat s.new.self.post.seat xs s.new.trace.items in
    subst F c.reserve.ensures.items s.ensures.traced
