use Rattle.std.proofs.Common.{◌≡◌, ◌∙◌, ◌++◌, List, ap, sym, subst}
use Rattle.lwkt_core.specs.declared.events.Event.{Event}
use Rattle.lwkt_cpu.specs.Processors.{Processor}
use Rattle.lwkt_drive.specs.declared.driven.Driven.{Driven}
use Rattle.lwkt_drive.specs.Appending.{TracesStop}
use Rattle.lwkt_drive.proofs.driven.Driven.stop.Goals as goal

pub returns-clause-ok : goal.returns-clause-ok
returns-clause-ok g c =
    let before = c.make_room.new.self in
    let part = c.stop_in_room.new.trace in
    let s = c.stop_in_room.ensures in
    let old : before.cpu ≡ c.args.self.now.cpu = ap (λ (d : Driven g.row.B.Denot). d.cpu) c.make_room.ensures.rest in
    let new : c.keep.new.self.cpu ≡ c.stop_in_room.new.self = ap (λ (d : Driven g.row.B.Denot). d.cpu) c.keep.ensures.rest in
    let traced : TracesStop {B = g.row.B.Denot} before.cpu c.stop_in_room.new.self before.room part = record { stops = s.stops; ran = s.ran; traced = s.traced; same = s.same } in
    let Olds : Processor g.row.B.Denot → Type 0 = λ p. TracesStop {B = g.row.B.Denot} p c.stop_in_room.new.self before.room part in
    let News : Processor g.row.B.Denot → Type 0 = λ p. TracesStop {B = g.row.B.Denot} c.args.self.now.cpu p before.room part in
    record {
      room = before.room;
      part = part;
      none = c.in_ok-make_room.ensures.room.none;
      does = subst News (sym new) (subst Olds old traced);
      grown = c.keep.ensures.items ∙ ap (λ (es : List Event). es ++ part.items) c.make_room.ensures.items;
    }
