use Rattle.std.proofs.Common.{rules}
use Rattle.lwkt_bank.specs.Seats.{id_of}
use Rattle.lwkt_drive.specs.Course.{DrivesOn}
use Rattle.lwkt_drive.proofs.CourseMoves.{zip_each}
use Rattle.lwkt_drive.proofs.slices.drive_slice.Goals as goal

pub returns-clause-on : goal.returns-clause-on
returns-clause-on g c =
    zip_each (DrivesOn {B = g.row.B.Denot} g.B.Body.polled (g.G.Gate.answers c.args.door.now.gate.now) (id_of c.args.bank.now) c.args.limits.now) c.args.all.now c.for_each_mut.new.s c.for_each_mut.auto.s (λ i d less. let ch = (c.for_each_mut.ensures i d less).1 in let cl = ch.call in search rules)
