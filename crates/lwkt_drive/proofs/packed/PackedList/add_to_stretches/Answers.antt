use Rattle.std.proofs.Common.{◌≡◌, ◌∙◌, ◌<◌, ◌++◌, List, length, get_or, take, ap, subst, arith}
use Rattle.lwkt_base.specs.declared.sections.Section.{Section}
use Rattle.lwkt_core.specs.declared.events.Event.{Event}
use Rattle.lwkt_core.specs.RunSections.{section_in, sections_named}
use Rattle.lwkt_drive.specs.declared.short_events.CellSection.{CellSection}
use Rattle.lwkt_drive.specs.declared.short_events.ShortEvent.{ShortEvent}
use Rattle.lwkt_drive.specs.declared.short_events.ShortEvent.TheVariants.{Load as ShortLoad}
use Rattle.lwkt_drive.specs.declared.wide_events.WideEvent.{WideEvent}
use Rattle.lwkt_drive.specs.ShortEvents.{long_event, events_in}
use Rattle.lwkt_drive.specs.Stretches.{StandFor}
use Rattle.lwkt_drive.proofs.StretchMoves.{named_row}
use Rattle.lwkt_drive.proofs.packed.PackedList.add_to_stretches.Goals as goal

pub loop-row-preserved : goal.loop-row-preserved
loop-row-preserved c = λ sections stand.
    let i = c.self.inside in
    let l = c.loop-row in
    let rows : List ShortEvent = c.deref-row-items.result.now in
    let cells : List CellSection = i.cells.items in
    let wides : List WideEvent = i.wides.items in
    let longs : List Event = i.longs.items in
    let done : List Section = sections ++ sections_named (events_in cells wides longs (take l.row-index rows)) in
    let d : ShortEvent = ShortLoad (record { 0 = 0 }) (record { 0 = 0 }) in
    let row : ShortEvent = get_or rows l.row-index d in
    let low : l.row-index < length rows = omega (arith, c.loop-row-test.true) in
    let named : StandFor c.add_to.new.stretches (done ++ section_in (long_event c.deref.result.now wides c.deref-in-loop-row.result.now row)) = c.in_ok-add_to.ensures wides done (l.invariant sections stand) in
    let e : done ++ section_in (long_event c.deref.result.now wides c.deref-in-loop-row.result.now row) ≡ done ++ section_in (long_event cells wides longs row) =
    ap (λ (xs : List CellSection). done ++ section_in (long_event xs wides c.deref-in-loop-row.result.now row)) c.deref.ensures.value ∙ ap (λ (xs : List Event). done ++ section_in (long_event cells wides xs row)) c.deref-in-loop-row.ensures.value in
    subst (StandFor c.add_to.new.stretches) (e ∙ named_row cells wides longs rows l.row-index d sections low) named
