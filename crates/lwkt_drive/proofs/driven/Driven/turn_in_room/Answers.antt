use Rattle.std.proofs.Common.{◌≡◌, ap, sym, subst}
use Rattle.lwkt_bank.specs.Seats.{id_of}
use Rattle.lwkt_cpu.specs.Processors.{Processor}
use Rattle.lwkt_cpu.specs.Turning.{MakesTurn}
use Rattle.lwkt_drive.specs.declared.driven.Driven.{Driven}
use Rattle.lwkt_drive.proofs.driven.Driven.turn_in_room.Goals as goal

pub returns-clause-makes : goal.returns-clause-makes
returns-clause-makes g c =
    let before = c.args.self.now in
    let part = c.turn_in_room-turned.new.trace in
    let new : c.keep.new.self.cpu ≡ c.turn_in_room-turned.new.self = ap (λ (d : Driven g.row.B.Denot). d.cpu) c.keep.ensures.rest in
    let News : Processor g.row.B.Denot → Type 0 = λ p. MakesTurn {B = g.row.B.Denot} g.B.Body.polled (id_of c.args.bank.now) before.cpu p before.room part c.turn_in_room-turned.result in
    record {
      room = before.room;
      part = part;
      none = c.requires.room.none;
      does = subst News (sym new) c.turn_in_room-turned.ensures.makes;
      grown = c.keep.ensures.items;
    }
