use Rattle.std.proofs.Common.{◌≡◌, ◌+◌, ◌*◌, ◌/◌, ◌<◌, length, sym, ◌∙◌, arith}
use Rattle.std.proofs.lemmas.List.{length-set}
use Rattle.lwkt_script.proofs.RecordTexts.{odd_refused, byte_read, blob_read, blob_short}
use Rattle.lwkt_script.proofs.records.blob_of.Goals as goal

pub returns-then-text-count-clause-exact : goal.returns-then-text-count-clause-exact
returns-then-text-count-clause-exact c =
    let n = length c.args.text.now in
    let h = c.if-text-count.true in
    let odd : length c.args.text.now ≡ 2 * (length c.args.text.now / 2) + 1 = omega arith in
    sym (odd_refused c.args.most c.args.text.now (length c.args.text.now / 2) c.if-text-most.false odd)

pub loop-place-preserved : goal.loop-place-preserved
loop-place-preserved c =
    let text = c.args.text.now in
    let bytes = c.loop-place.bytes in
    let place = c.loop-place.place in
    let test = c.loop-place-test.true in
    let inside : 2 * c.loop-place.place + 1 < length c.args.text.now = omega arith in
    let whole : length c.loop-place.bytes ≡ 65 = c.loop-place.invariant.0 in
    let short = c.if-text-most.false in
    let most = c.requires in
    let room : c.loop-place.place < length c.loop-place.bytes = omega arith in
    (length-set bytes place c.in_ok-bytes.field-0 ∙ whole, byte_read bytes text place c.in_ok-bytes.field-0 0 inside room (sym c.byte_of.ensures ∙ c.in_ok-bytes.was) ∙ c.loop-place.invariant.1)

pub returns-clause-exact : goal.returns-clause-exact
returns-clause-exact c =
    let past = c.loop-place-test.false in
    let end = c.loop-place.auto.place-end in
    let even = c.if-text-count.false in
    blob_read c.args.text.now c.loop-place.bytes c.of.result c.loop-place.place (length c.args.text.now / 2) c.args.most c.if-text-most.false even (omega arith) c.loop-place.invariant.1 c.of.ensures.kept

pub returns-clause-short : goal.returns-clause-short
returns-clause-short c =
    let even = c.if-text-count.false in
    blob_short c.args.text.now c.loop-place.bytes c.of.result (length c.args.text.now / 2) c.args.most c.if-text-most.false c.loop-place.invariant.0 c.requires c.of.ensures.kept (omega arith)
