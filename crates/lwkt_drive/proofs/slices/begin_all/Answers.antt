use Rattle.std.proofs.Common.{◌≡◌, rules}
use Rattle.lwkt_drive.specs.Course.{drive_begun}
use Rattle.lwkt_drive.proofs.CourseMoves.{zip_each}
use Rattle.lwkt_drive.proofs.slices.begin_all.Goals as goal

pub returns : goal.returns
returns g c =
    zip_each (λ old new. new ≡ drive_begun {B = g.row.B.Denot} old) c.args.all.now c.for_each_mut.new.s c.for_each_mut.auto.s (λ i d less. let ch = (c.for_each_mut.ensures i d less).1 in let cl = ch.call in search rules)
