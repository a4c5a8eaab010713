use Rattle.std.proofs.Common.{◌≡◌, ◌∙◌, ◌<◌, length, sym, false}
use Rattle.std.specs.Prelude.{Some}
use Rattle.lwkt_told.specs.Called.{is_thread}
use Rattle.lwkt_told.specs.Circles.{next_call}
use Rattle.lwkt_told.proofs.CallLemmas.{comes_on}
use Rattle.lwkt_told.proofs.circles.is_in_circle.Goals as goal

pub loop-call-preserved : goal.loop-call-preserved
loop-call-preserved c =
    let next = next_call c.args.names.now c.args.script.now c.args.lines.now in
    let below : c.loop-call._call < length c.args.lines.now = c.loop-call-test.true in
    let is : next c.loop-call.now ≡ Some c.in-Some.call = cc in
    let other : is_thread c.in-Some.call.target c.args.first ≡ false = cc in
    sym (comes_on next c.args.first c.loop-call.now c.in-Some.call c.loop-call._call (length c.args.lines.now) below is other) ∙ c.loop-call.invariant
