use Rattle.lwkt_cpu.proofs.ShutMoves.{rest_posted}
use Rattle.lwkt_cpu.proofs.cpus.Cpu.pay.Goals as goal

pub invariant_of-self : goal.invariant_of-self
invariant_of-self g c =
    let i = c.self.inside in
    rest_posted {B = g.row.B.Denot} i.hold.seat i.ports c.send_owed.new.self i.bodies.items i.threads.items i.running i.cursor c.send_owed.ensures.same c.self.invariant
