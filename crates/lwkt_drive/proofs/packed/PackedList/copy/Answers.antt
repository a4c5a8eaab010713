use Rattle.std.proofs.Common.{◌≡◌, ◌∙◌, ◌+◌, ◌<◌, List, length, get_or, ap, sym, arith}
use Rattle.std.proofs.lemmas.List.{length-map}
use Rattle.lwkt_core.specs.declared.events.Event.{Event}
use Rattle.lwkt_drive.specs.declared.short_events.CellSection.{CellSection}
use Rattle.lwkt_drive.specs.declared.short_events.ShortEvent.{ShortEvent}
use Rattle.lwkt_drive.specs.declared.wide_events.WideEvent.{WideEvent}
use Rattle.lwkt_drive.specs.ShortEvents.{long_event}
use Rattle.lwkt_drive.proofs.EventMoves.{copied_more}
use Rattle.lwkt_drive.proofs.packed.PackedList.copy.Goals as goal

pub loop-i-preserved : goal.loop-i-preserved
loop-i-preserved c =
    let i = c.self.inside in
    let l = c.loop-i in
    let rows : List ShortEvent = i.rows.items in
    let cells : List CellSection = i.cells.items in
    let wides : List WideEvent = i.wides.items in
    let longs : List Event = i.longs.items in
    let d : ShortEvent = c.index.result.now in
    let many : length c.args.self.now.items ≡ length rows = sym (ap (λ t. length t.items) c.self.view_is) ∙ length-map rows (long_event cells wides longs) in
    let within : c.args.first + l.i < length rows = omega (arith, many, c.requires, c.loop-i-test.true, l.auto.i-end) in
    let e : Event = long_event c.deref-in-loop-i.result.now c.deref-in-loop-i-2.result.now c.deref-in-loop-i-3.result.now d in
    let is : e ≡ long_event cells wides longs (get_or rows (c.args.first + l.i) d) =
    ap (λ (xs : List CellSection). long_event xs c.deref-in-loop-i-2.result.now c.deref-in-loop-i-3.result.now d) c.deref-in-loop-i.ensures.value ∙ ap (λ (xs : List WideEvent). long_event cells xs c.deref-in-loop-i-3.result.now d) c.deref-in-loop-i-2.ensures.value ∙ ap (λ (xs : List Event). long_event cells wides xs d) c.deref-in-loop-i-3.ensures.value ∙ ap (long_event cells wides longs) c.index.ensures in
    record {
      room = copied_more cells wides longs rows c.args.self.now.items c.args.first l.i d l.room.items c.put.new.room.items e (ap (λ t. t.items) c.self.view_is) within l.invariant.room is c.put.ensures.items;
      long = omega (arith, c.put.ensures.len, l.invariant.long);
      left = omega (arith, c.put.ensures.capacity, l.invariant.left);
    }
