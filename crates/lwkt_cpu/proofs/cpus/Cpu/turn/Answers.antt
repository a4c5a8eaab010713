use Rattle.lwkt_bank.specs.Seats.{id_of}
use Rattle.lwkt_cpu.proofs.TurnMoves.{turn_from_room}
use Rattle.lwkt_cpu.proofs.cpus.Cpu.turn.Goals as goal

pub returns-clause-ok : goal.returns-clause-ok
returns-clause-ok g c =
    let e = c.reserve.ensures in
    turn_from_room {B = g.row.B.Denot} g.B.Body.polled (id_of c.args.bank.now) c.args.self.now c.turn_in_room.new.self c.args.trace.now c.reserve.new.list c.turn_in_room.new.trace c.turn_in_room.result e.items e.len e.capacity c.turn_in_room.ensures.makes
