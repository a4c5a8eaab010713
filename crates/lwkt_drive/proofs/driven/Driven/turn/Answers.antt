use Rattle.std.proofs.Common.{◌≡◌, List, ap, subst}
use Rattle.lwkt_core.specs.declared.events.Event.{Event}
use Rattle.lwkt_bank.specs.Seats.{id_of}
use Rattle.lwkt_cpu.specs.Processors.{Processor}
use Rattle.lwkt_drive.specs.Appending.{AppendsTurn}
use Rattle.lwkt_drive.specs.declared.driven.Driven.{Driven}
use Rattle.lwkt_drive.proofs.driven.Driven.turn.Goals as goal

pub returns-clause-ok : goal.returns-clause-ok
returns-clause-ok g c =
    let before = c.make_room.new.self in
    let t = c.turn_in_room in
    let old : before.cpu ≡ c.args.self.now.cpu = ap (λ (d : Driven g.row.B.Denot). d.cpu) c.make_room.ensures.rest in
    let Olds : Processor g.row.B.Denot → Type 0 = λ p. AppendsTurn {B = g.row.B.Denot} g.B.Body.polled (id_of c.args.bank.now) p t.new.self.cpu before.trace.items t.new.self.trace.items t.result in
    let Traces : List Event → Type 0 = λ es. AppendsTurn {B = g.row.B.Denot} g.B.Body.polled (id_of c.args.bank.now) c.args.self.now.cpu t.new.self.cpu es t.new.self.trace.items t.result in
    subst Traces c.make_room.ensures.items (subst Olds old t.ensures.makes)
