use Rattle.std.proofs.Common.{◌≡◌, ◌<◌, ◌≤◌, Some, length, get_or, sym, ◌∙◌, arith, subst}
use Rattle.std.proofs.lemmas.List.{length-set}
use Rattle.serde_json.specs.View.{view}
use Rattle.serde_json.specs.declared.value.Value.{Value}
use Rattle.lwkt_script.specs.Field.{whole}
use Rattle.lwkt_trace.proofs.RowTexts.{row_read, number_read}
use Rattle.lwkt_trace.proofs.sections.row_of.Goals as goal

pub loop-place-preserved : goal.loop-place-preserved
loop-place-preserved c =
    let items = c.args.items.now in
    let cells = c.loop-place.cells in
    let short : length items ≤ 4 = c.if-items-gt-CELL_LIMIT.false in
    let inside : c.loop-place.place < length items = c.loop-place-test.true in
    let four : length cells ≡ 4 = c.loop-place.invariant.0 in
    let room : c.loop-place.place < length cells = omega arith in
    let number : whole (view (get_or items c.loop-place.place c.index-items-place.result)) ≡ Some c.in_ok-cells.field-0 =
    subst (λ (v : Value). whole (view v) ≡ Some c.in_ok-cells.field-0) c.index-items-place.is (sym c.as_u64.ensures ∙ c.in_ok-cells.was) in
    (length-set cells c.loop-place.place c.in_ok-cells.field-0 ∙ four, number_read cells items c.loop-place.place c.in_ok-cells.field-0 c.index-items-place.result inside room number ∙ c.loop-place.invariant.1)

pub returns : goal.returns
returns c = row_read c.args.items.now c.loop-place.cells c.loop-place.place c.of.result c.if-items-gt-CELL_LIMIT.false c.loop-place-test.false c.loop-place.auto.place-end c.loop-place.invariant.1 c.of.ensures
