use Rattle.std.proofs.Common.{◌≡◌, ◌∙◌, ◌<◌, List, length, ap, sym, arith}
use Rattle.std.proofs.lemmas.List.{length-map}
use Rattle.lwkt_core.specs.declared.events.Event.{Event}
use Rattle.lwkt_drive.specs.declared.short_events.CellSection.{CellSection}
use Rattle.lwkt_drive.specs.declared.short_events.ShortEvent.{ShortEvent}
use Rattle.lwkt_drive.specs.declared.wide_events.WideEvent.{WideEvent}
use Rattle.lwkt_drive.specs.Gives.{give_of}
use Rattle.lwkt_drive.specs.ShortEvents.{long_event}
use Rattle.lwkt_drive.proofs.EventMoves.{give_at}
use Rattle.lwkt_drive.proofs.packed.PackedList.give.Goals as goal

pub returns : goal.returns
returns c =
    let i = c.self.inside in
    let rows : List ShortEvent = i.rows.items in
    let cells : List CellSection = i.cells.items in
    let wides : List WideEvent = i.wides.items in
    let longs : List Event = i.longs.items in
    let d : ShortEvent = c.index.result.now in
    let many : length c.args.self.now.items ≡ length rows = sym (ap (λ t. length t.items) c.self.view_is) ∙ length-map rows (long_event cells wides longs) in
    let within : c.args.place < length rows = omega (arith, many, c.requires) in
    let is = c.give.ensures wides ∙ ap (λ (xs : List CellSection). give_of (long_event xs wides c.deref-2.result.now d)) c.deref.ensures.value ∙ ap (λ (xs : List Event). give_of (long_event cells wides xs d)) c.deref-2.ensures.value ∙ ap (λ (r : ShortEvent). give_of (long_event cells wides longs r)) c.index.ensures in
    give_at cells wides longs rows c.args.self.now.items c.args.place d c.give.result (ap (λ t. t.items) c.self.view_is) within is
