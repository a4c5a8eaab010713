use Rattle.std.proofs.Common.{◌≡◌, ◌∙◌, ◌++◌, ℕ, ◌≤◌, List, length, ap, sym, subst, ltb-false, ltb-true, Option}
use Rattle.std.specs.Prelude.{OnOk}
use Rattle.std.specs.Option.{option_map_or}
use Rattle.std.proofs.lemmas.Option.{slice_get_past, slice_get-get_or}
use Rattle.lwkt_base.specs.declared.sections.Section.{Section}
use Rattle.lwkt_core.specs.declared.events.Event.{Event}
use Rattle.lwkt_core.specs.declared.events.Event.TheVariants.{Load}
use Rattle.lwkt_core.specs.RunSections.{section_in}
use Rattle.lwkt_drive.specs.declared.short_events.CellSection.{CellSection}
use Rattle.lwkt_drive.specs.ShortEvents.{gave_cell, no_event, long_event}
use Rattle.lwkt_drive.specs.Stretches.{StandFor}
use Rattle.lwkt_drive.proofs.StretchMoves.{no_more}
use Rattle.lwkt_drive.proofs.short_events.ShortEvent.add_to.Goals as goal

pub returns-in-None : goal.returns-in-None
returns-in-None c = λ wides sections stand.
    let cells : List CellSection = c.args.cells.now in
    let longs : List Event = c.args.longs.now in
    let place : ℕ = c.in-GaveCell.place in
    let cpu = c.in-GaveCell.field-0 in
    let tok = c.in-GaveCell.tok in
    let past : length cells ≤ place = ltb-false place (length cells) (sym c.in-None.ensures.lookup.0) in
    let e : long_event cells wides longs c.args.self.now ≡ Load cpu tok =
    ap (long_event cells wides longs) c.in-GaveCell.is ∙ ap (λ (o : Option CellSection). option_map_or (gave_cell cpu tok) o (Load cpu tok)) (slice_get_past cells place past) in
    subst (λ (x : Event). StandFor c.args.stretches.now (sections ++ section_in x)) (sym e) (no_more c.args.stretches.now sections stand)

pub returns-in-Some-get : goal.returns-in-Some-get
returns-in-Some-get c = λ wides.
    let cells : List CellSection = c.args.cells.now in
    let longs : List Event = c.args.longs.now in
    let place : ℕ = c.in-Long.place in
    let event : Event = c.in-Some-get.event.now in
    let found = c.in-Some-get.ensures.lookup in
    let e : long_event cells wides longs c.args.self.now ≡ event =
    ap (long_event cells wides longs) c.in-Long.is ∙ ap (λ (o : Option Event). option_map_or (λ x. x) o no_event) (slice_get-get_or longs place event (ltb-true place (length longs) (sym found.0))) ∙ sym found.1 in
    subst (λ (x : Event). OnOk c.add_event.result ((sections : List Section) → StandFor c.args.stretches.now sections → StandFor c.add_event.new.self (sections ++ section_in x))) (sym e) c.add_event.ensures

pub returns-in-None-get : goal.returns-in-None-get
returns-in-None-get c = λ wides sections stand.
    let cells : List CellSection = c.args.cells.now in
    let longs : List Event = c.args.longs.now in
    let place : ℕ = c.in-Long.place in
    let past : length longs ≤ place = ltb-false place (length longs) (sym c.in-None-get.ensures.lookup.0) in
    let e : long_event cells wides longs c.args.self.now ≡ no_event =
    ap (long_event cells wides longs) c.in-Long.is ∙ ap (λ (o : Option Event). option_map_or (λ x. x) o no_event) (slice_get_past longs place past) in
    subst (λ (x : Event). StandFor c.args.stretches.now (sections ++ section_in x)) (sym e) (no_more c.args.stretches.now sections stand)
