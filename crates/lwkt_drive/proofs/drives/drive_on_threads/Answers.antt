use Rattle.std.proofs.Common.{subst}
use Rattle.std.specs.List.{AllZip}
use Rattle.lwkt_bank.specs.Seats.{id_of}
use Rattle.lwkt_drive.specs.declared.driven.Driven.{Driven}
use Rattle.lwkt_drive.specs.Course.{IsDriven}
use Rattle.lwkt_drive.proofs.CourseMoves.{are_driven, all_at, all_within}
use Rattle.lwkt_drive.proofs.drives.drive_on_threads.Goals as goal

pub returns-clause-driven : goal.returns-clause-driven
returns-clause-driven g c =
    let Body = g.row.B.Denot in
    let F : g.row.G.Denot → Type 0 = λ gate. AllZip (λ (old new : Driven Body). IsDriven {B = Body} g.B.Body.polled (g.G.Gate.answers gate) (id_of c.args.bank.now) c.args.limits.now old new new.ending) c.args.all.now c.drive_slices.new.all in
    subst F c.new-door.ensures
    (are_driven {B = Body} g.B.Body.polled (g.G.Gate.answers c.new-door.result.gate.now) (id_of c.args.bank.now) c.args.limits.now c.args.all.now c.begin_all.new.all c.drive_slices.new.all c.begin_all.ensures c.drive_slices.ensures.out)

pub drive_slices-requires-clause-at : goal.drive_slices-requires-clause-at
drive_slices-requires-clause-at g c κs within =
    all_at {B = g.row.B.Denot} (id_of c.args.bank.now) c.args.book.now.table c.args.all.now c.begin_all.new.all c.begin_all.ensures c.requires.at

pub drive_slices-requires-clause-within : goal.drive_slices-requires-clause-within
drive_slices-requires-clause-within g c κs within =
    all_within {B = g.row.B.Denot} c.args.limits.now c.args.all.now c.begin_all.new.all c.begin_all.ensures
