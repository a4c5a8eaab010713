use Rattle.std.proofs.Common.{◌∙◌, List, [], ◌∷◌, length, ap, sym, subst, arith}
use Rattle.std.specs.List.{All}
use Rattle.std.proofs.lemmas.List.Elements.{All-append}
use Rattle.lwkt_core.specs.declared.events.Event.{Event}
use Rattle.lwkt_drive.specs.declared.short_events.CellSection.{CellSection}
use Rattle.lwkt_drive.specs.declared.short_events.ShortEvent.{ShortEvent}
use Rattle.lwkt_drive.specs.declared.wide_events.WideEvent.{WideEvent}
use Rattle.lwkt_drive.specs.ShortEvents.{IsEventIn}
use Rattle.lwkt_drive.proofs.EventMoves.{all_one, events_grown, inside_grown, events_pushed}
use Rattle.lwkt_drive.proofs.packed.PackedList.put.Goals as goal

pub invariant_of-self : goal.invariant_of-self
invariant_of-self c =
    let i = c.self.inside in
    let k = c.keep_event-row in
    let cells : List CellSection = k.new.cells.items in
    let wides : List WideEvent = k.new.wides.items in
    let longs : List Event = k.new.longs.items in
    let row : ShortEvent = k.result in
    let IsIn : ShortEvent → Type 0 = λ r. IsEventIn (length cells) (length wides) (length longs) r in
    let before : All IsIn i.rows.items = inside_grown i.cells.items cells i.wides.items wides i.longs.items longs i.rows.items k.ensures.takes.cell.behind k.ensures.takes.wide.behind k.ensures.takes.long.behind c.self.invariant.inside in
    record {
      inside = subst (λ (rows : List ShortEvent). All IsIn rows) (sym c.push_reserved.ensures.items) (All-append IsIn i.rows.items (row ∷ []) before (all_one IsIn row k.ensures.inside));
      room = omega (arith, k.ensures.room);
    }

pub returns-clause-items : goal.returns-clause-items
returns-clause-items c =
    let i = c.self.inside in
    let k = c.keep_event-row in
    let cells : List CellSection = k.new.cells.items in
    let wides : List WideEvent = k.new.wides.items in
    let longs : List Event = k.new.longs.items in
    events_pushed cells wides longs i.rows.items c.push_reserved.new.self.items k.result c.args.self.now.items c.args.event.now c.push_reserved.ensures.items (events_grown i.cells.items cells i.wides.items wides i.longs.items longs i.rows.items k.ensures.takes.cell.behind k.ensures.takes.wide.behind k.ensures.takes.long.behind c.self.invariant.inside ∙ ap (λ t. t.items) c.self.view_is) k.ensures.same
